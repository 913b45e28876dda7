use mathlib.Core.Path.{ap}
use lib.ListN.{length, length-set}
use borrow.Author.Rules.{rules}
use Rattle.laws.proofs.Tab.{fill_none, fill_next}
use Rattle.dimension.specs.declared.dimensions.Dimensions.{Dimensions}
use Rattle.stored.proofs.exponents.dimensions.Goals as goal

pub loop-i-init : goal.loop-i-init
loop-i-init c = (ap (λ (d : Dimensions). length d.powers) c.one-d.ensures, fill_none _ c.one-d.result.powers)

pub loop-i-preserved : goal.loop-i-preserved
loop-i-preserved c =
    let l = c.loop-i in
    (simp length-set l.invariant.0, fill_next _ l.i 12 l.d.powers l.invariant.1 l.invariant.0 (search rules) c.exponent.ensures)
