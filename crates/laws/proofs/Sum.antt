-- The laws of `sum`: a loop that adds up, s being the sum so far. Assumes nothing.
use Prim.Native.Nat.{ℕ, zero, suc, ◌+◌, ◌*◌, ◌<◌, ◌≤◌}
use mathlib.Core.Path.{◌≡◌, refl}
use native.Mathlib.Nat.{le_antisymm}
use native.Mathlib.Numerals.{add-one}
use native.Mathlib.Omega.{arith}
use Rattle.laws.specs.Ranges.{sum}

module _ (f : ℕ → ℕ) where
  pub sum_none : 0 ≡ sum f 0
  unfolding sum
  sum_none = refl

  pub sum_next : (i s : ℕ) {v : ℕ} → s ≡ sum f i → v ≡ f i → s + v ≡ sum f (i + 1)
  unfolding sum
  sum_next i s p e = rw (add-one, sum, p, e)

  pub sum_end : (i n s : ℕ) → s ≡ sum f i → i ≤ n → n ≤ i → s ≡ sum f n
  sum_end i n s p l m = rw (le_antisymm m l) p

  -- terms of at most b
  pub sum_most : (b n : ℕ) → ((k : ℕ) → k < n → f k ≤ b) → sum f n ≤ n * b
  unfolding sum
  sum_most b zero h = omega arith
  sum_most b (suc n) h = omega (arith, sum_most b n (λ k l. h k (omega arith)), h n (omega arith))

pub ruleset sums = (sum_none, sum_next, sum_end)
