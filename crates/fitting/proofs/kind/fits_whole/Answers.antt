-- `fitting::kind::fits_whole` meets its contract, test by test.
use Rattle.fitting.proofs.Worded.{in_count, past_count, exponents_differ, marks_say}
use Rattle.fitting.proofs.kind.fits_whole.Goals as goal
use Rattle.laws.proofs.Cases.{not_then, not_else}

pub returns-then-kind_count-k : goal.returns-then-kind_count-k
returns-then-kind_count-k c = past_count _ _ _ c.kind_count.ensures c.if-kind_count-k.true

pub returns-then-not-same_exponents : goal.returns-then-not-same_exponents
returns-then-not-same_exponents c = exponents_differ _ _ _ _ (in_count _ _ c.kind_count.ensures c.if-kind_count-k.false) c.same_exponents.ensures (not_then c.if-not-same_exponents.true)

pub returns : goal.returns
returns c =
    marks_say _ _ _ _ (in_count _ _ c.kind_count.ensures c.if-kind_count-k.false) c.same_exponents.ensures (not_else c.if-not-same_exponents.false) (rw (c.word.ensures, c.word-2.ensures, c.word-3.ensures, c.from.ensures))
