use native.Mathlib.Omega.{arith}
use lib.ListN.{length-set}
use Rattle.laws.proofs.Tab.{tab_next}
use Rattle.catalog.proofs.keys.keys_of.Goals as goal

pub loop-k-preserved : goal.loop-k-preserved
loop-k-preserved c =
    let l = c.loop-k in
    (l.invariant.0, l.invariant.1, simp length-set l.invariant.2, rw c.from.ensures (tab_next _ l.k 240 _ l.invariant.3 (omega arith) (omega arith) c.kind_key.ensures))
