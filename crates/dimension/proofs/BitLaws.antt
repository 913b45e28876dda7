-- Numbers and the bits that stand for them, by two's complement. Assumes nothing.
use mathlib.Core.Path.{◌≡◌, refl, sym, ◌∙◌, ap}
use mathlib.Core.Bool.{Bool, true, false, ◌||◌}
use Prim.Native.Nat.{ℕ, suc, ◌+◌, ◌-◌, ◌<◌, ◌≤◌}
use native.Mathlib.Decide.{dec_le}
use native.Mathlib.Omega.{arith}
use borrow.Author.Tests.{ltb-true, leb-true}
use lib.Dec.{ltb, leb}
use lib.IntN.{ℤ, pos, negsuc, nat_abs, ◌+ℤ◌, ◌-ℤ◌}
use mir.Syntax.{w32}
use mir.Val.{SFits}
use Rattle.dimension.specs.Integer.{bits32, twos, up}
use Rattle.dimension.specs.Fraction.{ratio, sum, difference, declared}
use Rattle.std.specs.declared.option.Option.TheVariants.{Some}
use Rattle.dimension.proofs.Signs.{fits_small, twos_low, twos_high}
use Rattle.dimension.proofs.Integers.{size_sum, size_difference}
use Rattle.dimension.proofs.Whole as W
use Rattle.dimension.proofs.Whole.{gcd_one}
use Rattle.dimension.proofs.ExponentLaws.{told_declared, declared_told}

-- 32 bits hold the bits of a number, and it is what they stand for
pub bits_below : (x : ℤ) → SFits w32 x → bits32 x < 4294967296
bits_below (pos n) h = omega arith
bits_below (negsuc n) h = omega arith

pub twos_bits : (x : ℤ) → SFits w32 x → twos 2147483648 (bits32 x) ≡ x
twos_bits (pos n) h = sym (twos_low 2147483648 n (omega arith))
twos_bits (negsuc n) h = sym (twos_high 2147483648 (4294967295 - n) n (omega arith) (omega arith))

-- the bits of the number that bits stand for are these bits
pub bits_twos : (x : ℕ) → x < 4294967296 → bits32 (twos 2147483648 x) ≡ x
bits_twos x h = go (dec_le 2147483648 x)
  where
    go : Dec (2147483648 ≤ x) → bits32 (twos 2147483648 x) ≡ x
    go (no f) = ap bits32 (sym (twos_low 2147483648 x (omega arith)))
    go (yes f) = ap bits32 (sym (twos_high 2147483648 x (4294967295 - x) f (omega arith))) ∙ omega arith

-- a number that so many bits stand for is no further from zero than half of the patterns
pub twos_size : (half x : ℕ) → x < half + half → nat_abs (twos half x) ≤ half
twos_size half x h = go (dec_le half x)
  where
    go : Dec (half ≤ x) → nat_abs (twos half x) ≤ half
    go (no f) = rw (← twos_low half x (omega arith)) (omega arith)
    go (yes f) = rw (← twos_high half x (half + half - suc x) f (omega arith)) (omega arith)

-- 32 bits that stand for a number −32,768 to 32,767, and this number over 1, which can be declared
pub whole_declared : (x : ℕ) → x < 4294967296 → (ltb x 32768 || leb 4294934528 x) ≡ true → declared (ratio (twos 2147483648 x) 1) ≡ true
whole_declared x h e = go (ltb x 32768) refl
  where
    whole : (z : ℤ) → nat_abs z ≤ 32768 → up z ≤ 32767 → declared (ratio z 1) ≡ true
    whole z n t = told_declared (ratio z 1) (record { reduced = record { coprime = gcd_one (nat_abs z); positive = omega arith }; num = n; den = omega arith; top = t })

    go : (b : Bool) → ltb x 32768 ≡ b → declared (ratio (twos 2147483648 x) 1) ≡ true
    go true q =
        let l = ltb-true x 32768 q in
        rw (← twos_low 2147483648 x (omega arith)) (whole (pos x) (omega arith) (omega arith))
    go false q =
        let u : leb 4294934528 x ≡ true = rw q at e in
        let l = leb-true 4294934528 x u in
        rw (← twos_high 2147483648 x (4294967295 - x) (omega arith) (omega arith)) (whole (negsuc (4294967295 - x)) (omega arith) (omega arith))

-- two such numbers: their sum and difference, and that these fit
module _ (x y : ℕ) (h : x < 4294967296) (k : y < 4294967296) (p : (ltb x 32768 || leb 4294934528 x) ≡ true) (q : (ltb y 32768 || leb 4294934528 y) ≡ true) where
  left : nat_abs (twos 2147483648 x) ≤ 32768
  left = (declared_told (ratio (twos 2147483648 x) 1) (whole_declared x h p)).num

  right : nat_abs (twos 2147483648 y) ≤ 32768
  right = (declared_told (ratio (twos 2147483648 y) 1) (whole_declared y k q)).num

  sum_small : nat_abs (twos 2147483648 x +ℤ twos 2147483648 y) ≤ 2147483647
  sum_small = omega (arith, left, right, size_sum (twos 2147483648 x) (twos 2147483648 y))

  difference_small : nat_abs (twos 2147483648 x -ℤ twos 2147483648 y) ≤ 2147483647
  difference_small = omega (arith, left, right, size_difference (twos 2147483648 x) (twos 2147483648 y))

  pub whole_sum_fits : SFits w32 (twos 2147483648 x +ℤ twos 2147483648 y)
  whole_sum_fits = fits_small _ sum_small

  pub whole_difference_fits : SFits w32 (twos 2147483648 x -ℤ twos 2147483648 y)
  whole_difference_fits = fits_small _ difference_small

  pub whole_sum : sum (ratio (twos 2147483648 x) 1) (ratio (twos 2147483648 y) 1) ≡ Some (ratio (twos 2147483648 x +ℤ twos 2147483648 y) 1)
  whole_sum = sym (W.whole_in _ sum_small ∙ W.whole_sum (ratio (twos 2147483648 x) 1) (ratio (twos 2147483648 y) 1) refl refl)

  pub whole_difference : difference (ratio (twos 2147483648 x) 1) (ratio (twos 2147483648 y) 1) ≡ Some (ratio (twos 2147483648 x -ℤ twos 2147483648 y) 1)
  whole_difference = sym (W.whole_in _ difference_small ∙ W.whole_difference (ratio (twos 2147483648 x) 1) (ratio (twos 2147483648 y) 1) refl refl)

-- what so many bits stand for fits in a signed number of 32
pub twos_fits : (half x : ℕ) → half ≤ 2147483648 → x < half + half → SFits w32 (twos half x)
twos_fits half x l h = go (dec_le half x)
  where
    go : Dec (half ≤ x) → SFits w32 (twos half x)
    go (no f) = rw (← twos_low half x (omega arith)) (record { sfits = omega arith })
    go (yes f) = rw (← twos_high half x (half + half - suc x) f (omega arith)) (record { sfits = omega arith })
