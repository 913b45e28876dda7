-- The bits of several numbers in one number: it is below a power of two exactly if each of them is. And a loop that gathers them. Assumes nothing.
use Rattle.std.proofs.Common.{◌≡◌, ℕ, zero, suc, ◌+◌, ◌^◌, ◌≤◌, Bool, true, false, ◌&&◌, eqb, ltb, sym, refl, ◌∙◌, le_trans, add-one, arith, pow_pos, ltb-false, ltb-true, le-ltb, lt-ltb, eq-eqb, ne_eqb}
use lib.Bits.{bit_or, or_lt, or_add_and, and_le_l, and_le_r}
use Rattle.laws.specs.Ranges.{all}
use Rattle.valid.specs.Shown.{ors}

-- neither number is more than what has the bits of both
or_left : (a b : ℕ) → a ≤ bit_or a b
or_left a b = omega (arith, or_add_and a b, and_le_r a b)

or_right : (a b : ℕ) → b ≤ bit_or a b
or_right a b = omega (arith, or_add_and a b, and_le_l a b)

module _ (k : ℕ) where
  pub or_below : (a b : ℕ) → ltb (bit_or a b) (2 ^ k) ≡ (ltb a (2 ^ k) && ltb b (2 ^ k))
  or_below a b = go (ltb a (2 ^ k)) refl (ltb b (2 ^ k)) refl
    where
      go : (x : Bool) → ltb a (2 ^ k) ≡ x → (y : Bool) → ltb b (2 ^ k) ≡ y → ltb (bit_or a b) (2 ^ k) ≡ (ltb a (2 ^ k) && ltb b (2 ^ k))
      go true p true q = rw (p, q) (lt-ltb (bit_or a b) (2 ^ k) (or_lt k a b (ltb-true a (2 ^ k) p) (ltb-true b (2 ^ k) q)))
      go true p false q = rw (p, q) (le-ltb (bit_or a b) (2 ^ k) (le_trans (ltb-false b (2 ^ k) q) (or_right a b)))
      go false p y q = rw p (le-ltb (bit_or a b) (2 ^ k) (le_trans (ltb-false a (2 ^ k) p) (or_left a b)))

  pub ors_below : (f : ℕ → ℕ) (n : ℕ) → ltb (ors f n) (2 ^ k) ≡ all (λ j. ltb (f j) (2 ^ k)) n
  unfolding ors all
  ors_below f zero = lt-ltb 0 (2 ^ k) (pow_pos k)
  ors_below f (suc n) = or_below (ors f n) (f n) ∙ rw (ors_below f n)

-- below 1 there is only 0
pub none_below : (a : ℕ) → eqb a 0 ≡ ltb a 1
none_below zero = eq-eqb 0 0 refl ∙ sym (lt-ltb 0 1 (omega arith))
none_below (suc a) = ne_eqb (suc a) 0 (λ e. omega (arith, e)) ∙ sym (le-ltb (suc a) 1 (omega arith))

-- ---- in code: v has the bits of those below i
module _ (f : ℕ → ℕ) where
  pub ors_none : 0 ≡ ors f 0
  unfolding ors
  ors_none = refl

  pub ors_next : (i : ℕ) {v x : ℕ} → v ≡ ors f i → x ≡ f i → bit_or v x ≡ ors f (i + 1)
  unfolding ors
  ors_next i e q = rw (add-one, ors, e, q)
