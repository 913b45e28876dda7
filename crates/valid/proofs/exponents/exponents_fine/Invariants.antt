-- `valid::exponents::exponents_fine` meets its contract: all whole, or one after the other.
use Rattle.std.proofs.Common.{◌≡◌, true}
use Rattle.laws.specs.Ranges.{all}
use Rattle.dimension.specs.Fraction as F
use Rattle.rules.specs.Table as T
use Rattle.valid.proofs.exponents.exponents_fine.Given as goal

abbrev pub invariant-loop-b : goal.invariant-loop-b
invariant-loop-b l = all (λ b'. F.declared (T.exponent_from l.t l.p b')) l.b ≡ true
