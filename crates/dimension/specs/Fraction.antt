-- Exact exponents. A `Rational` is the number num / den; 01 bounds exponents by its 32-bit limits, "for results in lowest terms too".
use Rattle.std.specs.Prelude.{Bool, cond, ◌&&◌, ◌≡◌, ℕ, ◌*◌, ◌/◌, ◌<◌, ◌≤◌, leb, ltb, eqb, ℤ, pos, neg_ℤ, nat_abs, ◌+ℤ◌, ◌-ℤ◌, ◌*ℤ◌}
use Rattle.std.specs.Int.Signed.{quot_z}
use Rattle.dimension.specs.Gcd.{gcd}
use Rattle.dimension.specs.Integer.{eq_z, up}
use Rattle.dimension.specs.declared.rational.Rational.{Rational}
use Rattle.std.specs.declared.option.Option.{Option}
use Rattle.std.specs.declared.option.Option.TheVariants.{None, Some}

-- n / d
abbrev pub ratio : ℤ → ℕ → Rational
ratio n d = record { num = n; den = d }

abbrev pub zero : Rational
zero = ratio (pos 0) 1

abbrev pub one : Rational
one = ratio (pos 1) 1

-- n / d in lowest terms: both divided by what they share
unfoldable pub lowest : ℤ → ℕ → Rational
lowest n d = ratio (quot_z n (pos (gcd (nat_abs n) d))) (d / gcd (nat_abs n) d)

-- 01: "numerator ±2,147,483,647, denominator 1 to 2,147,483,647"
abbrev pub limit : ℕ
limit = 2147483647

unfoldable pub within : Rational → Bool
within a = leb (nat_abs a.num) limit && ltb 0 a.den && leb a.den limit

-- a, or that it is over the limits
unfoldable pub limited : Rational → Option Rational
limited a = cond (within a) (Some a) None

-- 01: "reduced first": n / d in lowest terms, or that this is over the limits; so is whatever stands over 0
unfoldable pub answer : ℤ → ℕ → Option Rational
answer n d = limited (lowest n d)

-- the textbook's sum, difference, product and opposite of two fractions
unfoldable pub sum : Rational → Rational → Option Rational
sum a b = answer (a.num *ℤ pos b.den +ℤ b.num *ℤ pos a.den) (a.den * b.den)

unfoldable pub difference : Rational → Rational → Option Rational
difference a b = answer (a.num *ℤ pos b.den -ℤ b.num *ℤ pos a.den) (a.den * b.den)

unfoldable pub product : Rational → Rational → Option Rational
product a b = answer (a.num *ℤ b.num) (a.den * b.den)

unfoldable pub opposite : Rational → Option Rational
opposite a = answer (neg_ℤ a.num) a.den

-- written alike; two in lowest terms are so just where their values are equal
unfoldable pub equal : Rational → Rational → Bool
equal a b = eq_z a.num b.num && eqb a.den b.den

-- the value is one, and zero
unfoldable pub is_one : Rational → Bool
is_one a = ltb 0 a.den && eq_z a.num (pos a.den)

unfoldable pub is_zero : Rational → Bool
is_zero a = ltb 0 a.den && eq_z a.num (pos 0)

-- 01, the table: "declared exponents lie in their ranges, fractions reduced": a numerator −32,768 to 32,767, a denominator 1 to 32,767,
-- lowest terms
unfoldable pub declared : Rational → Bool
declared a =
    leb (nat_abs a.num) 32768 && ltb 0 a.den && leb a.den 32767 && eqb (gcd (nat_abs a.num) a.den) 1 && leb (up a.num) 32767

-- ---- what the laws speak of
-- r is the sum, difference, product or opposite: in ℤ, multiplied across
abbrev pub IsSum : Rational → Rational → Rational → Type 0
IsSum a b r = r.num *ℤ pos (a.den * b.den) ≡ (a.num *ℤ pos b.den +ℤ b.num *ℤ pos a.den) *ℤ pos r.den

abbrev pub IsDifference : Rational → Rational → Rational → Type 0
IsDifference a b r = r.num *ℤ pos (a.den * b.den) ≡ (a.num *ℤ pos b.den -ℤ b.num *ℤ pos a.den) *ℤ pos r.den

abbrev pub IsProduct : Rational → Rational → Rational → Type 0
IsProduct a b r = r.num *ℤ pos (a.den * b.den) ≡ a.num *ℤ b.num *ℤ pos r.den

abbrev pub IsOpposite : Rational → Rational → Type 0
IsOpposite a r = r.num *ℤ pos a.den ≡ neg_ℤ a.num *ℤ pos r.den

-- a and b are one number
abbrev pub SameValue : Rational → Rational → Type 0
SameValue a b = a.num *ℤ pos b.den ≡ b.num *ℤ pos a.den

-- in lowest terms
pub record Reduced (a : Rational) : Type 0 where
  pub coprime : gcd (nat_abs a.num) a.den ≡ 1
  pub positive : 0 < a.den

-- an exponent: in lowest terms, within the limits
pub record Proper (a : Rational) : Type 0 where
  pub reduced : Reduced a
  pub num : nat_abs a.num ≤ limit
  pub den : a.den ≤ limit

-- an exponent that a catalog can declare
pub record Declared (a : Rational) : Type 0 where
  pub reduced : Reduced a
  pub num : nat_abs a.num ≤ 32768
  pub den : a.den ≤ 32767
  pub top : up a.num ≤ 32767
