use native.Mathlib.Omega.{arith}
use Rattle.laws.proofs.First.{first_here}
use Rattle.image.specs.Shown.{denominator_at}
use Rattle.image.proofs.layout.denominators_fault.Goals as goal

pub returns-then-denominator_wrong : goal.returns-then-denominator_wrong
unfolding denominator_at
returns-then-denominator_wrong c =
    let l = c.loop-b in
    rw (first_here _ l.b 12 (omega arith) l.invariant c.denominator_wrong.ensures c.if-denominator_wrong.true)
