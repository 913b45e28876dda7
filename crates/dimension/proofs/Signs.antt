-- Signed numbers of the machine: what fits 32 and 64 bits, a number's parts and size, and the bits that stand for it. Assumes nothing.
use mathlib.Core.Path.{◌≡◌, refl, sym, ◌∙◌}
use mathlib.Core.Bool.{Bool, true, false, ◌&&◌}
use Prim.Native.Nat.{ℕ, zero, suc, ◌+◌, ◌-◌, ◌<◌, ◌≤◌, ◌^◌}
use native.Mathlib.Nat.{mul-le-mul}
use native.Mathlib.Decide.{ℕ_discrete}
use native.Mathlib.Omega.{arith}
use borrow.Author.Tests.{eq-eqb, ne_eqb, lt-ltb, le-ltb}
use lib.Dec.{ltb, eqb}
use lib.IntN.{ℤ, pos, negsuc, nat_abs, ◌+ℤ◌, ◌-ℤ◌, ◌*ℤ◌}
use lib.Signed.{mag}
use mir.Syntax.{w32, w64}
use mir.Val.{SFits, of_z, to_z}
use mir.ValLaws.{to_z-of_z}
use Rattle.std.proofs.Common.{int_eq}
use Rattle.std.proofs.lemmas.Bool.Decides.{nat_tests}
use Rattle.dimension.specs.Fraction as F
use Rattle.dimension.specs.declared.rational.Rational.{Rational}
use Rattle.dimension.specs.Integer.{eq_z, up, signed, twos}
use Rattle.dimension.proofs.Integers.{is_down, size_sum, size_difference, size_product}

-- ---- what fits
mag_size : (x : ℤ) → mag x ≤ nat_abs x
mag_size (pos n) = omega arith
mag_size (negsuc n) = omega arith

pub size_fits : (x : ℤ) → SFits w32 x → nat_abs x ≤ 2147483648
size_fits (pos n) h = omega arith
size_fits (negsuc n) h = omega arith

-- a number of no more than 2 ^ 62 has 64 bits
fits_size : (x : ℤ) → nat_abs x ≤ 4611686018427387904 → SFits w64 x
fits_size x h = record { sfits = omega (arith, mag_size x) }

-- and one of no more than 2 ^ 31 - 1 has 32
pub fits_small : (x : ℤ) → nat_abs x ≤ 2147483647 → SFits w32 x
fits_small x h = record { sfits = omega (arith, mag_size x) }

-- so sums, differences and products of two numbers of 32 bits have 64
module _ (x y : ℤ) (h : SFits w32 x) (k : SFits w32 y) where
  pub sum_fits : SFits w64 (x +ℤ y)
  sum_fits = fits_size (x +ℤ y) (omega (arith, size_sum x y, size_fits x h, size_fits y k))

  pub difference_fits : SFits w64 (x -ℤ y)
  difference_fits = fits_size (x -ℤ y) (omega (arith, size_difference x y, size_fits x h, size_fits y k))

  pub product_fits : SFits w64 (x *ℤ y)
  product_fits = fits_size (x *ℤ y) (rw (size_product x y) (mul-le-mul (size_fits x h) (size_fits y k)))

-- what 64 bits say of a number that 32 bits stand for
abbrev pub widened : ℤ → ℤ
widened x = to_z w64 (of_z w64 (to_z w32 (of_z w32 x)))

pub widened_is : (x : ℤ) → SFits w32 x → widened x ≡ x
widened_is x h = rw (to_z-of_z w32 x h) (to_z-of_z w64 x (record { sfits = omega arith }))

-- ---- a size with a sign
pub signed_fits : (t : Bool) (n : ℕ) → n ≤ 2147483647 → SFits w32 (signed t n)
signed_fits true zero h = record { sfits = omega arith }
signed_fits true (suc n) h = record { sfits = omega arith }
signed_fits false n h = record { sfits = omega arith }

pub signed_size : (t : Bool) (n : ℕ) → nat_abs (signed t n) ≡ n
signed_size true zero = refl
signed_size true (suc n) = refl
signed_size false n = refl

-- ---- bits
-- the bits of two numbers are equal where the numbers are
pub same_bits : (x y : ℤ) → SFits w32 x → SFits w32 y → eqb (of_z w32 x) (of_z w32 y) ≡ eq_z x y
same_bits (pos m) (pos n) h k = refl
same_bits (pos m) (negsuc n) h k = ne_eqb m (2 ^ 32 - suc n) (λ e. omega arith)
same_bits (negsuc m) (pos n) h k = ne_eqb (2 ^ 32 - suc m) n (λ e. omega arith)
same_bits (negsuc m) (negsuc n) h k = go (ℕ_discrete m n)
  where
    go : Dec (m ≡ n) → eqb (2 ^ 32 - suc m) (2 ^ 32 - suc n) ≡ eqb m n
    go (yes e) = eq-eqb (2 ^ 32 - suc m) (2 ^ 32 - suc n) (omega arith) ∙ sym (eq-eqb m n e)
    go (no f) = ne_eqb (2 ^ 32 - suc m) (2 ^ 32 - suc n) (λ e. f (omega arith)) ∙ sym (ne_eqb m n f)

-- `==` of two numbers, and of two fractions
same_number : (x y : ℤ) → int_eq x y ≡ eq_z x y
same_number (pos m) (pos n) = grind (arith, nat_tests)
same_number (pos m) (negsuc n) = refl
same_number (negsuc m) (pos n) = refl
same_number (negsuc m) (negsuc n) = grind (arith, nat_tests)

pub same_fraction : (a b : Rational) → (int_eq a.num b.num && eqb a.den b.den) ≡ F.equal a b
unfolding F.equal
same_fraction a b = rw (same_number a.num b.num)

-- the value is one: no denominator but 0 is the part of a number below zero
pub one_test : (x : ℤ) (d : ℕ) → (ltb 0 d && eqb (up x) d) ≡ (ltb 0 d && eq_z x (pos d))
one_test (pos n) d = refl
one_test (negsuc n) zero = refl
one_test (negsuc n) (suc d) = simp (ne_eqb 0 (suc d) (λ e. omega arith))

pub twos_low : (half x : ℕ) → x < half → pos x ≡ twos half x
twos_low half x h = rw (lt-ltb x half h)

pub twos_high : (half x k : ℕ) → half ≤ x → half + half ≡ x + suc k → negsuc k ≡ twos half x
twos_high half x k h e = rw (le-ltb x half h) (sym (is_down x (half + half) k e))
