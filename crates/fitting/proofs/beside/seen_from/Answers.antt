-- `fitting::beside::seen_from` meets its contract.
use mathlib.Core.Path.{◌≡◌}
use Rattle.laws.specs.Options.{is_some}
use Rattle.laws.specs.Ranges.{first}
use Rattle.rules.specs.Kinds.{fits}
use Rattle.rules.specs.Table.{kinds_of}
use Rattle.fitting.specs.Shown.{at, fits_beside}
use Rattle.fitting.proofs.Others.{beside_unfit, beside_others, beside_alone}
use Rattle.fitting.proofs.beside.seen_from.Goals as goal
use Rattle.laws.proofs.Cases.{not_then, not_else}

pub returns-then-not-fits_whole : goal.returns-then-not-fits_whole
returns-then-not-fits_whole c =
    let kind_fits : c.fits_whole.result ≡ fits (kinds_of c.args.t.now) (at c.args.d c.args.g) c.args.k = rw c.words_of-w.ensures.words_value at c.fits_whole.ensures in
    beside_unfit _ _ _ kind_fits (not_then c.if-not-fits_whole.true)

pub returns-then-another : goal.returns-then-another
returns-then-another c =
    let kind_fits : c.fits_whole.result ≡ fits (kinds_of c.args.t.now) (at c.args.d c.args.g) c.args.k = rw c.words_of-w.ensures.words_value at c.fits_whole.ensures in
    let others : c.another.result ≡ is_some (first (fits_beside (kinds_of c.args.t.now) (at c.args.d c.args.g) c.args.k) (kinds_of c.args.t.now).count) = rw (c.words_of-w.ensures.words_value, c.kind_count.ensures) at c.another.ensures in
    beside_others _ _ _ kind_fits (not_else c.if-not-fits_whole.false) others c.if-another.true

pub returns : goal.returns
returns c =
    let kind_fits : c.fits_whole.result ≡ fits (kinds_of c.args.t.now) (at c.args.d c.args.g) c.args.k = rw c.words_of-w.ensures.words_value at c.fits_whole.ensures in
    let others : c.another.result ≡ is_some (first (fits_beside (kinds_of c.args.t.now) (at c.args.d c.args.g) c.args.k) (kinds_of c.args.t.now).count) = rw (c.words_of-w.ensures.words_value, c.kind_count.ensures) at c.another.ensures in
    beside_alone _ _ _ kind_fits (not_else c.if-not-fits_whole.false) others c.if-another.false
