use mathlib.Core.Path.{refl, sym}
use native.Mathlib.Omega.{arith}
use lib.Seq.{length-take-le}
use Rattle.std.proofs.lemmas.Result.{err_from_is_err_and}
use Rattle.laws.proofs.Checks.{each_none}
use Rattle.rules.specs.Catalog.{catalog_in}
use Rattle.rules.specs.Table.{entries_in}
use Rattle.compile.proofs.Prefix.{few_words, few_entered}
use Rattle.compile.proofs.EachRecord.{all_end}
use Rattle.compile.proofs.RowRule.{turn_in, turn_asked, turn_stop, turn_next}
use Rattle.compile.proofs.rows.check_rows.Goals as goal

pub loop-i-init : goal.loop-i-init
unfolding entries_in
loop-i-init c = (refl, each_none _)

pub returns-in_err-row : goal.returns-in_err-row
returns-in_err-row c =
    let p = err_from_is_err_and c.from_residual.result c.from_residual.ensures.1 in
    rw (p.1, p.2) (turn_asked c.args.c.image.now c.args.c.few_kinds c.args.c.few_rows c.loop-i.i (omega arith) c.loop-i.invariant.1 c.in_err-row.ensures)

pub slice_bounds-check_named-end : goal.slice_bounds-check_named-end
slice_bounds-check_named-end c =
    sym (length-take-le c.loop-i.used c.args.c.rows.now (turn_in c.args.c.image.now c.args.c.few_kinds c.args.c.few_rows c.loop-i.i (omega arith) c.args.c.rows_value c.loop-i.invariant.0))

pub returns-in_err-check_named : goal.returns-in_err-check_named
returns-in_err-check_named c =
    let p = err_from_is_err_and c.from_residual-in_err-check_named.result c.from_residual-in_err-check_named.ensures.1 in
    rw (p.1, p.2) (turn_stop c.args.c.image.now c.args.c.few_kinds c.args.c.few_rows c.loop-i.i (omega arith) c.args.c.t.now c.args.c.reads c.args.c.rows_value c.loop-i.invariant.0 c.loop-i.invariant.1 c.in_ok-row.ensures c.in_err-check_named.ensures)

pub overflow_add-used : goal.overflow_add-used
overflow_add-used c =
    let f = few_words (catalog_in c.args.c.image.now) c.loop-i.i in
    let w = few_entered c.in_ok-row.row c.entered-used.ensures in
    omega (arith, f, w)

pub loop-i-preserved : goal.loop-i-preserved
loop-i-preserved c =
    let t = turn_next c.args.c.image.now c.args.c.few_kinds c.args.c.few_rows c.loop-i.i (omega arith) c.args.c.t.now c.args.c.reads c.args.c.rows_value c.loop-i.invariant.0 c.loop-i.invariant.1 c.in_ok-row.ensures c.in_ok-check_named.ensures c.entered-used.ensures in
    (t.0, t.1)

pub returns : goal.returns
returns c =
    all_end _ c.loop-i.i _ c.row_count-i-end.ensures c.loop-i.invariant.1 (omega arith) (omega arith)
