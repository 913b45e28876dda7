use Rattle.std.proofs.Common.{arith}
use Rattle.std.proofs.lemmas.Result.{err_from_is_err_and}
use mathlib.Core.Path.{refl}
use Rattle.compile.proofs.EachRecord.{all_none, all_next, all_here, all_end}
use Rattle.compile.proofs.kinds.check_kinds.Goals as goal

pub loop-k-init : goal.loop-k-init
loop-k-init g c = λ rule h. all_none rule

pub returns-in_err-check : goal.returns-in_err-check
returns-in_err-check g c =
    λ rule h.
    let p = err_from_is_err_and c.from_residual.result c.from_residual.ensures.1 in
    rw (p.1, p.2) (all_here rule c.loop-k.k c.args.n refl (c.loop-k.invariant rule h) (omega arith) (h c.loop-k.k _ (omega arith) c.in_err-check.ensures))

pub loop-k-preserved : goal.loop-k-preserved
loop-k-preserved g c = λ rule h. all_next rule c.loop-k.k (c.loop-k.invariant rule h) (h c.loop-k.k _ (omega arith) c.in_ok-check.ensures)

pub returns : goal.returns
returns g c = λ rule h. all_end rule c.loop-k.k c.args.n refl (c.loop-k.invariant rule h) (omega arith) (omega arith)
