-- The greatest common divisor, by Euclid's remainders; k bounds the number of steps. That it divides both numbers, and that whatever divides both
-- divides it, is shown in proofs/Euclid.
use Rattle.std.specs.Prelude.{ℕ, zero, suc, ◌%◌}

unfoldable pub euclid : ℕ → ℕ → ℕ → ℕ
euclid zero a b = a
euclid (suc k) a zero = a
euclid (suc k) a (suc b) = euclid k (suc b) (a % suc b)

unfoldable pub gcd : ℕ → ℕ → ℕ
gcd a b = euclid (suc b) a b
