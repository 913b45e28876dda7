-- "the SI rule for products, quotients and powers as the registry uses it": SI Brochure, 9th edition, 2.3.3, base by base and as values, of what the
-- rules derive and of the kinds they answer. proofs/SiRule shows it of every image that compiles (`image_si`).
use Rattle.std.specs.Prelude.{ℕ, ◌<◌, ◌≡◌, false}
use Rattle.std.specs.declared.option.Option.TheVariants.{Some}
use Rattle.laws.specs.Out.{given}
use Rattle.dimension.specs.Fraction as F
use Rattle.dimension.specs.Dimension as D
use Rattle.dimension.specs.declared.rational.Rational.{Rational}
use Rattle.dimension.specs.declared.dimensions.Dimensions.{Dimensions}
use Rattle.dimension.specs.declared.grade.ProductOp.{ProductOp}
use Rattle.dimension.specs.declared.grade.ProductOp.TheVariants.{Mul, Div, Dot, Wedge}
use Rattle.rules.specs.Kinds.{Kinds, Rows, Graded}
use Rattle.rules.specs.Arithmetic as rule
use Rattle.guarantees.specs.Premises.{Scalars}

-- the exponent x is the sum of a and b, in a quotient their difference
abbrev pub Joins : ProductOp → Rational → Rational → Rational → Type 0
Joins Mul a b x = F.IsSum a b x
Joins Div a b x = F.IsDifference a b x
Joins Dot a b x = F.IsSum a b x
Joins Wedge a b x = F.IsSum a b x

-- each of the twelve is
abbrev pub JoinsAll : ProductOp → Dimensions → Dimensions → Dimensions → Type 0
JoinsAll op a b x = (i : ℕ) → i < 12 → Joins op (D.exponent a i) (D.exponent b i) (D.exponent x i)

-- each of the twelve of x is that of a times the exponent e
abbrev pub Multiplies : Dimensions → Rational → Dimensions → Type 0
Multiplies a e x = (i : ℕ) → i < 12 → F.IsProduct (D.exponent a i) e (D.exponent x i)

pub record SiRule (K : Kinds) (rows : Rows) : Type 0 where
  -- what two kinds are derived as
  pub derived : (l : ℕ) (op : ProductOp) (r : ℕ) (x : Graded) (a b : Dimensions) → rule.derive K l op r ≡ given x → K.dims l ≡ Some a → K.dims r ≡ Some b → JoinsAll op a b x.dims
  -- and the kind that their product is
  pub product : Scalars K → (l : ℕ) (op : ProductOp) (r k : ℕ) (a b : Dimensions) → rule.product K rows l op r ≡ given k → K.dims l ≡ Some a → K.dims r ≡ Some b
      → (x : Dimensions) × (K.dims k ≡ Some x) × JoinsAll op a b x
  -- the kind that a power is; "exponent one gives the kind" itself
  pub power : (code k j : ℕ) (e : Rational) (a : Dimensions) → 0 < e.den → F.is_one e ≡ false → rule.power K code k (Some e) ≡ given j → K.dims k ≡ Some a
      → (x : Dimensions) × (K.dims j ≡ Some x) × Multiplies a e x
