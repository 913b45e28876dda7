-- The operations of fractions by the parts above and below zero, as the code has them. Assumes nothing.
use mathlib.Core.Path.{◌≡◌, refl, sym, ◌∙◌, ap, ap₂}
use mathlib.Core.Bool.{Bool, true, false, and-false}
use Prim.Native.Nat.{ℕ, zero, suc, ◌+◌, ◌-◌, ◌*◌, ◌/◌, ◌<◌, ◌≤◌}
use native.Mathlib.Nat.{zero-div}
use native.Mathlib.Omega.{arith}
use lib.IntN.{ℤ, pos, neg_ℤ, nat_abs, sub_ℕ, ◌+ℤ◌, ◌-ℤ◌, ◌*ℤ◌}
use lib.Signed.{quot_z}
use Rattle.dimension.specs.Gcd.{gcd}
use Rattle.dimension.specs.Integer.{up, down, signed}
use Rattle.dimension.specs.Fraction.{ratio, lowest, within, limited, answer}
use Rattle.std.specs.declared.option.Option.TheVariants.{None}
use Rattle.dimension.proofs.Integers.{diff, is_up, is_down, is, plus, turn, times, scale}
use Rattle.dimension.proofs.Signs.{signed_size}

-- a difference with its sign
pub above : (u d : ℕ) → d ≤ u → signed false (u - d) ≡ sub_ℕ u d
above u d h = sym (is_up u d (u - d) (omega arith))

pub below : (u d : ℕ) → u < d → signed true (d - u) ≡ sub_ℕ u d
below u d h = go (d - u) (omega arith)
  where
    go : (k : ℕ) → d ≡ u + k → signed true k ≡ sub_ℕ u d
    go zero e = absurd (omega arith)
    go (suc k) e = sym (is_down u d k e)

-- a quotient with its sign
quotient : (t : Bool) (n g : ℕ) → quot_z (signed t n) (pos g) ≡ signed t (n / g)
quotient true zero g = rw (zero-div g)
quotient true (suc n) g = refl
quotient false n g = refl

pub lowest_signed : (t : Bool) (n d g : ℕ) → g ≡ gcd n d → ratio (signed t (n / g)) (d / g) ≡ lowest (signed t n) d
unfolding lowest
lowest_signed t n d g e = rw (signed_size t n, ← e, quotient t n g)

-- nothing over zero is a fraction
pub answer_zero : (z : ℤ) → answer z 0 ≡ None
unfolding limited within lowest answer
answer_zero z = rw (zero-div (gcd (nat_abs z) 0)) (simp and-false)

-- ---- the numerators, from their parts
pub whole_parts : (z : ℤ) → sub_ℕ (up z) (down z) ≡ z
unfolding diff
whole_parts z = sym (is z)

pub opposite_parts : (z : ℤ) → sub_ℕ (down z) (up z) ≡ neg_ℤ z
unfolding diff
opposite_parts z = sym (turn (up z) (down z)) ∙ ap neg_ℤ (whole_parts z)

module _ (n m : ℤ) (d e : ℕ) where
  pub sum_parts : sub_ℕ (up n * e + up m * d) (down n * e + down m * d) ≡ n *ℤ pos e +ℤ m *ℤ pos d
  unfolding diff
  sum_parts =
      sym (plus (up n * e) (down n * e) (up m * d) (down m * d))
      ∙ ap₂ ◌+ℤ◌
      (sym (scale (up n) (down n) e) ∙ ap (λ (z : ℤ). z *ℤ pos e) (whole_parts n))
      (sym (scale (up m) (down m) d) ∙ ap (λ (z : ℤ). z *ℤ pos d) (whole_parts m))

  -- the opposite of a product, whose parts change places
  turned : sub_ℕ (down m * d) (up m * d) ≡ neg_ℤ (m *ℤ pos d)
  unfolding diff
  turned = sym (turn (up m * d) (down m * d)) ∙ ap neg_ℤ (sym (scale (up m) (down m) d) ∙ ap (λ (z : ℤ). z *ℤ pos d) (whole_parts m))

  pub difference_parts : sub_ℕ (up n * e + down m * d) (down n * e + up m * d) ≡ n *ℤ pos e -ℤ m *ℤ pos d
  unfolding diff
  difference_parts =
      sym (plus (up n * e) (down n * e) (down m * d) (up m * d))
      ∙ ap₂ ◌+ℤ◌ (sym (scale (up n) (down n) e) ∙ ap (λ (z : ℤ). z *ℤ pos e) (whole_parts n)) turned

pub product_parts : (n m : ℤ) → sub_ℕ (up n * up m + down n * down m) (up n * down m + down n * up m) ≡ n *ℤ m
unfolding diff
product_parts n m = sym (times (up n) (down n) (up m) (down m)) ∙ ap₂ ◌*ℤ◌ (whole_parts n) (whole_parts m)
