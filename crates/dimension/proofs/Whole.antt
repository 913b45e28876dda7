-- Whole numbers, and zero: no divisor needs to be looked for. Assumes nothing.
use mathlib.Core.Path.{◌≡◌, ◌∙◌, ap}
use mathlib.Core.Bool.{Bool, true, false}
use Prim.Native.Nat.{ℕ, suc, ◌%◌, ◌<◌, ◌≤◌}
use native.Mathlib.Nat.{mul-one}
use native.Mathlib.Omega.{arith}
use borrow.Author.Tests.{le-leb, lt-leb, ltb-true, ltb-false}
use lib.IntN.{ℤ, pos, negsuc, neg_ℤ, nat_abs, ◌+ℤ◌, ◌-ℤ◌, ◌*ℤ◌}
use lib.Signed.{lt_z}
use mir.Syntax.{w32, w64}
use mir.Val.{SFits, of_z, to_z}
use mir.ValLaws.{to_z-of_z}
use Rattle.dimension.specs.Gcd.{gcd}
use Rattle.dimension.specs.Integer.{signed}
use Rattle.dimension.specs.Fraction.{ratio, zero, lowest, within, limited, answer, sum, difference, product}
use Rattle.dimension.specs.declared.rational.Rational.{Rational}
use Rattle.std.specs.declared.option.Option.TheVariants.{None, Some}
use Rattle.dimension.proofs.Euclid.{gcd_zero, gcd_step, gcd_pos}
use Rattle.dimension.proofs.Parts.{lowest_signed, answer_zero}
use Rattle.dimension.proofs.Lowest.{lowest_same, fixed}
use Rattle.dimension.proofs.Signs.{widened, widened_is, sum_fits, difference_fits, product_fits}

pub gcd_one : (n : ℕ) → gcd n 1 ≡ 1
gcd_one n = let z : n % 1 ≡ 0 = omega arith in gcd_step n 1 (omega arith) ∙ ap (gcd 1) z ∙ gcd_zero 1

lowest_whole : (z : ℤ) → lowest z 1 ≡ ratio z 1
lowest_whole z = fixed (ratio z 1) (record { coprime = gcd_one (nat_abs z); positive = omega arith })

-- a whole number within the limits, and one over them
pub whole_in : (z : ℤ) → nat_abs z ≤ 2147483647 → Some (ratio z 1) ≡ answer z 1
unfolding answer limited within
whole_in z h = rw (lowest_whole z, le-leb (nat_abs z) 2147483647 h)

pub whole_out : (z : ℤ) → 2147483647 < nat_abs z → None ≡ answer z 1
unfolding answer limited within
whole_out z h = rw (lowest_whole z, lt-leb (nat_abs z) 2147483647 h)

-- by the code's tests
pub tested_low : (z : ℤ) → lt_z z (negsuc 2147483646) ≡ true → 2147483647 < nat_abs z
tested_low (pos n) e = let q : ◌≡◌ {A = ℕ} 0 1 = cc in absurd (omega arith)
tested_low (negsuc n) e = omega (arith, ltb-true 2147483646 n e)

pub tested_high : (z : ℤ) → lt_z (pos 2147483647) z ≡ true → 2147483647 < nat_abs z
tested_high (pos n) e = ltb-true 2147483647 n e
tested_high (negsuc n) e = let q : ◌≡◌ {A = ℕ} 0 1 = cc in absurd (omega arith)

pub tested_in : (z : ℤ) → lt_z z (negsuc 2147483646) ≡ false → lt_z (pos 2147483647) z ≡ false → nat_abs z ≤ 2147483647
tested_in (pos n) e f = ltb-false 2147483647 n f
tested_in (negsuc n) e f = omega (arith, ltb-false 2147483646 n e)

pub in_fits : (z : ℤ) → nat_abs z ≤ 2147483647 → SFits w32 z
in_fits (pos n) h = record { sfits = omega arith }
in_fits (negsuc n) h = record { sfits = omega arith }

pub ruleset wholes = (whole_in, whole_out, tested_low, tested_high, tested_in, in_fits)

-- zero over whatever is not zero
same_zero : (d : ℕ) → 0 < d → answer (pos 0) 1 ≡ answer (pos 0) d
unfolding answer
same_zero d h = ap limited (lowest_same (pos 0) (pos 0) 1 d (omega arith) h (ap pos (omega arith)))

pub zero_over : (t : Bool) (d : ℕ) → 0 < d → Some zero ≡ answer (signed t 0) d
zero_over true d h = whole_in (pos 0) (omega arith) ∙ same_zero d h
zero_over false d h = whole_in (pos 0) (omega arith) ∙ same_zero d h

-- what is divided by the greatest common divisor, if it needs one
pub ruleset reductions = (gcd_pos, lowest_signed, answer_zero, zero_over)

-- ---- of two whole numbers
times_one : (z : ℤ) → z *ℤ pos 1 ≡ z
times_one (pos n) = ap pos (mul-one n)
times_one (negsuc n) = ap (λ (k : ℕ). neg_ℤ (pos k)) (mul-one (suc n))

module _ (a b : Rational) (p : a.den ≡ 1) (q : b.den ≡ 1) where
  pub whole_sum : answer (a.num +ℤ b.num) 1 ≡ sum a b
  unfolding answer sum
  whole_sum = rw (p, q, times_one a.num, times_one b.num)

  pub whole_difference : answer (a.num -ℤ b.num) 1 ≡ difference a b
  unfolding answer difference
  whole_difference = rw (p, q, times_one a.num, times_one b.num)

  pub whole_product : answer (a.num *ℤ b.num) 1 ≡ product a b
  unfolding answer product
  whole_product = rw (p, q)

-- so the code adds, subtracts and multiplies them in 64 bits
module _ (a b : Rational) (p : a.den ≡ 1) (q : b.den ≡ 1) (h : SFits w32 a.num) (k : SFits w32 b.num) where
  pub widened_sum : answer (to_z w64 (of_z w64 (widened a.num +ℤ widened b.num))) 1 ≡ sum a b
  widened_sum = rw (widened_is a.num h, widened_is b.num k, to_z-of_z w64 _ (sum_fits a.num b.num h k)) (whole_sum a b p q)

  pub widened_difference : answer (to_z w64 (of_z w64 (widened a.num -ℤ widened b.num))) 1 ≡ difference a b
  widened_difference = rw (widened_is a.num h, widened_is b.num k, to_z-of_z w64 _ (difference_fits a.num b.num h k)) (whole_difference a b p q)

  pub widened_product : answer (to_z w64 (of_z w64 (widened a.num *ℤ widened b.num))) 1 ≡ product a b
  widened_product = rw (widened_is a.num h, widened_is b.num k, to_z-of_z w64 _ (product_fits a.num b.num h k)) (whole_product a b p q)
