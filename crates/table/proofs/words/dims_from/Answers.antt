use mathlib.Core.Path.{refl}
use lib.ListN.{length-set}
use native.Mathlib.Omega.{arith}
use Rattle.dimension.specs.Dimension as D
use Rattle.laws.proofs.Tab.{fill_none, fill_next}
use Rattle.table.proofs.ExponentsInWords.{dims_end}
use Rattle.table.proofs.words.dims_from.Goals as goal

pub loop-b-init : goal.loop-b-init
loop-b-init c = rw c.one-d.ensures (refl, fill_none _ (D.one).powers)

pub loop-b-preserved : goal.loop-b-preserved
loop-b-preserved c =
    let l = c.loop-b in
    (simp length-set l.invariant.0, fill_next _ _ 12 _ l.invariant.1 l.invariant.0 (omega arith) c.exponent.ensures)

pub returns : goal.returns
returns c = dims_end _ _ c.loop-b.b _ c.loop-b.invariant.0 (omega arith) (omega arith) c.loop-b.invariant.1
