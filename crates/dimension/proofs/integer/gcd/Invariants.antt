-- `dimension::integer::gcd` meets its contract: each turn keeps the divisor of the two numbers. The measure is the second of them.
use mathlib.Core.Path.{◌≡◌}
use Rattle.dimension.specs.Gcd as G
use Rattle.dimension.proofs.integer.gcd.Given as goal

abbrev pub invariant-loop-y : goal.invariant-loop-y
invariant-loop-y l = G.gcd l.x l.y ≡ G.gcd l.a l.b

abbrev pub decreases-loop-y : goal.decreases-loop-y
decreases-loop-y l = l.y
