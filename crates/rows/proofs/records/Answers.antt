use mathlib.Core.Path.{refl}
use mathlib.Core.List.{[]}
use lib.ListN.{length-set}
use native.Mathlib.Omega.{arith}
use Rattle.laws.proofs.Tab.{fill_none, fill_next, fill_end}
use Rattle.rows.specs.Records.{records}
use Rattle.rows.proofs.records.Goals as goal

pub loop-i-init : goal.loop-i-init
loop-i-init c = (refl, fill_none _ [])

pub loop-i-preserved : goal.loop-i-preserved
loop-i-preserved c =
    let l = c.loop-i in
    (simp length-set l.invariant.0, fill_next _ _ 400 _ l.invariant.1 l.invariant.0 (omega arith) c.record_at.ensures)

pub returns : goal.returns
unfolding records
returns c = fill_end _ _ 400 _ c.loop-i.invariant.1 c.loop-i.invariant.0 (omega arith) (omega arith)
