-- `stored::exponents::dimensions` meets its contract. The loop's invariant: the first i exponents are filled in.
use mathlib.Core.Path.{◌≡◌}
use Prim.Native.Nat.{ℕ, ◌*◌}
use lib.ListN.{length, take, drop}
use Rattle.laws.specs.Ranges.{tab}
use Rattle.stored.specs.Exponents as E
use Rattle.stored.proofs.exponents.dimensions.Given as goal

abbrev pub invariant-loop-i : goal.invariant-loop-i
invariant-loop-i l = (length l.d.powers ≡ 12) × (take l.i l.d.powers ≡ tab (λ (k : ℕ). E.exponent (drop (8 * k) l.e)) l.i)
