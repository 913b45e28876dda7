use mathlib.Core.Path.{refl}
use native.Mathlib.Omega.{arith}
use lib.ListN.{length, length-set}
use Rattle.laws.proofs.Tab.{tab_none, tab_next}
use Rattle.written.proofs.rows.rows_named.Goals as goal

pub loop-i-init : goal.loop-i-init
loop-i-init c = (refl, tab_none _ _)

pub loop-i-preserved : goal.loop-i-preserved
loop-i-preserved c =
    let l = c.loop-i in
    (simp length-set l.invariant.0, rw c.from.ensures (tab_next _ l.i (length c.args.named.now) _ l.invariant.1 (omega arith) (omega arith) c.row_named.ensures))
