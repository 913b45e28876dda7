-- Exponents and dimensions at the front of bytes (docs/VECTORS.md); zeros stand for bytes that are missing.
use Rattle.std.specs.Prelude.{ℕ, ◌*◌, List, drop}
use Rattle.laws.specs.Ranges.{tab}
use Rattle.rules.specs.Bytes.{le4}
use Rattle.dimension.specs.Fraction as F
use Rattle.dimension.specs.Integer as I
use Rattle.dimension.specs.Dimension as D
use Rattle.dimension.specs.declared.rational.Rational.{Rational}
use Rattle.dimension.specs.declared.dimensions.Dimensions.{Dimensions}

-- the exponent that bytes begin with: numerator, then denominator
unfoldable pub exponent : List ℕ → Rational
exponent s = F.ratio (I.twos 2147483648 (le4 s 0)) (le4 s 4)

-- the twelve exponents that bytes begin with
unfoldable pub dimensions : List ℕ → Dimensions
dimensions s = D.dimensions (tab (λ (k : ℕ). exponent (drop (8 * k) s)) 12)
