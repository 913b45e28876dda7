-- Dimensions: an exponent for each of the twelve base quantities. SI Brochure, 9th edition, 2.3.3: the exponents of a product are the sums of the
-- factors' exponents, those of a quotient the differences, those of a power the products with its exponent.
use Rattle.std.specs.Prelude.{Bool, true, false, ◌&&◌, ◌≡◌, ℕ, ◌<◌, length, get_or, replicate}
use mathlib.Core.List.{List, [], ◌∷◌, zip_with, map}
use Rattle.std.specs.declared.option.Option.{Option}
use Rattle.std.specs.declared.option.Option.TheVariants.{None, Some}
use Rattle.std.specs.Option.{unwrap_or}
use Rattle.laws.specs.Options.{found}
use Rattle.dimension.specs.Fraction as F
use Rattle.dimension.specs.declared.rational.Rational.{Rational}
use Rattle.dimension.specs.declared.dimensions.Dimensions.{Dimensions}

abbrev pub dimensions : List Rational → Dimensions
dimensions l = record { powers = l }

-- dimension one: each exponent is zero
abbrev pub one : Dimensions
one = dimensions (replicate 12 F.zero)

-- all of the fractions, where none is over the limits
abbrev pub all : List (Option Rational) → Option (List Rational)
all [] = Some []
all (Some a ∷ l) = found (all l) (λ m. Some (a ∷ m)) None
all (None ∷ l) = None

unfoldable pub outcome : List (Option Rational) → Option Dimensions
outcome l = found (all l) (λ m. Some (dimensions m)) None

unfoldable pub product : Dimensions → Dimensions → Option Dimensions
product a b = outcome (zip_with F.sum a.powers b.powers)

unfoldable pub quotient : Dimensions → Dimensions → Option Dimensions
quotient a b = outcome (zip_with F.difference a.powers b.powers)

unfoldable pub power : Dimensions → Rational → Option Dimensions
power a e = outcome (map (λ (x : Rational). F.product x e) a.powers)

-- these, or dimension one where an exponent of theirs is over the limits
abbrev pub or_one : Option Dimensions → Dimensions
or_one o = unwrap_or o one

abbrev pub alike : List Rational → List Rational → Bool
alike [] [] = true
alike [] (b ∷ m) = false
alike (a ∷ l) [] = false
alike (a ∷ l) (b ∷ m) = F.equal a b && alike l m

-- each exponent is equal
unfoldable pub equal : Dimensions → Dimensions → Bool
equal a b = alike a.powers b.powers

-- ---- what the laws speak of
-- the exponent of base k
abbrev pub exponent : Dimensions → ℕ → Rational
exponent a k = get_or a.powers k F.zero

-- twelve exponents, each in lowest terms within the limits
pub record Sound (a : Dimensions) : Type 0 where
  pub twelve : length a.powers ≡ 12
  pub proper : (k : ℕ) → k < 12 → F.Proper (exponent a k)

-- twelve that a catalog can declare
pub record Declared (a : Dimensions) : Type 0 where
  pub twelve : length a.powers ≡ 12
  pub declared : (k : ℕ) → k < 12 → F.Declared (exponent a k)
