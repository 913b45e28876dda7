-- `catalog::fields::exponents_at` meets its contract. The loop's invariant: the first b exponents are read.
use Prim.Native.Nat.{◌+◌, ◌*◌}
use mathlib.Core.Path.{◌≡◌}
use lib.ListN.{length, take}
use Rattle.laws.specs.Ranges.{tab}
use Rattle.rules.specs.Catalog.{exponent_at}
use Rattle.catalog.proofs.fields.exponents_at.Given as goal

abbrev pub invariant-loop-b : goal.invariant-loop-b
invariant-loop-b l = (length l.powers ≡ 12) × (take l.b l.powers ≡ tab (λ i. exponent_at l.image (l.p + 96 + 4 * i)) l.b)
