-- The grade of a product or power in the geometric algebra of three-dimensional space.
use Rattle.std.specs.Prelude.{Bool, cond, ◌&&◌, ◌||◌, not, ℕ, ◌+◌, ◌-◌, ltb, leb, eqb}
use Rattle.dimension.specs.Fraction as F
use Rattle.dimension.specs.declared.rational.Rational.{Rational}
use Rattle.dimension.specs.declared.grade.ProductOp.{ProductOp}
use Rattle.dimension.specs.declared.grade.ProductOp.TheVariants.{Mul, Div, Dot, Wedge}
use Rattle.std.specs.declared.option.Option.{Option}
use Rattle.std.specs.declared.option.Option.TheVariants.{None, Some}

-- |a − b|
abbrev pub apart : ℕ → ℕ → ℕ
apart a b = a - b + (b - a)

-- g where the test holds and g is a grade
abbrev pub up_to3 : Bool → ℕ → Option ℕ
up_to3 test g = cond (test && leb g 3) (Some g) None

abbrev pub either : ℕ → ℕ → Bool
either a b = eqb a 0 || eqb b 0

-- 01: "Grades a, b: Mul a+b if either is 0; Div a if b is 0; Dot |a−b| and Wedge a+b if neither is 0; above 3 or otherwise 24."
abbrev pub rule : ProductOp → ℕ → ℕ → Option ℕ
rule Mul a b = up_to3 (either a b) (a + b)
rule Div a b = up_to3 (eqb b 0) a
rule Dot a b = up_to3 (not (either a b)) (apart a b)
rule Wedge a b = up_to3 (not (either a b)) (a + b)

-- of two grades; of any other numbers there is none
unfoldable pub product : ProductOp → ℕ → ℕ → Option ℕ
product op a b = cond (leb a 3 && leb b 3) (rule op a b) None

-- the Rust's `Grade::power`: the first power keeps the grade, every power of a scalar is one, and no other power has a single grade
unfoldable pub power : ℕ → Rational → Option ℕ
power a e = up_to3 (F.is_one e || eqb a 0) a

-- what an entry of a grade table says: from 4 on, that there is no single grade
abbrev pub graded : ℕ → Option ℕ
graded x = cond (ltb x 4) (Some x) None
