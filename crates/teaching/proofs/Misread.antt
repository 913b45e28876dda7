-- 01, "Errors to catch": each wrong reading as a definition of its own, and an input on which it answers otherwise than the rule. Assumes nothing.
use Prim.Native.Nat.{ℕ}
use mathlib.Core.Path.{◌≡◌, refl}
use mathlib.Core.Bool.{Bool, true, false, cond, ◌&&◌}
use mathlib.Core.List.{[], ◌∷◌, zip_with}
use Rattle.std.specs.declared.option.Option.TheVariants.{None, Some}
use lib.Dec.{eqb}
use lib.IntN.{pos}
use Rattle.laws.specs.Options.{found}
use Rattle.laws.specs.Out.{given, refused, ◌>>=◌, ◌>>◌, refuse_if, known}
use Rattle.laws.specs.Ranges.{first, picked}
use Rattle.dimension.specs.Gcd.{gcd, euclid}
use Rattle.dimension.specs.Fraction as F
use Rattle.dimension.specs.Dimension as D
use Rattle.dimension.specs.Grade as G
use Rattle.dimension.specs.declared.rational.Rational.{Rational}
use Rattle.dimension.specs.declared.grade.ProductOp.{ProductOp}
use Rattle.dimension.specs.declared.grade.ProductOp.TheVariants.{Mul, Div}
use Rattle.rules.specs.Kinds.{Kinds, Rows, Graded, same_op, point, fits, carries}
use Rattle.rules.specs.Refusal.{Answer, UnresolvedDimensions, UnresolvedTwin, NoProductKind, CommutativeQuotient, Unknown, UnsupportedOperation, absent}
use Rattle.rules.specs.Arithmetic.{operand, graded, grade_by, joined, derive, neutral_by, neutral, rated_by, rated, or_fitting, settle, resolve, product, raised, power, scaled}
use Rattle.rules.specs.Catalog.{Catalog, absent_kind, find}
use Rattle.rules.specs.Compile.{Checked, called, row_rule}
use Rattle.teaching.specs.Listed.{unlisted, kinds_by, bases, listed, teaching, no_rows}

-- ---- "testing dimensions before exponent one in a power"
early_power : Kinds → ℕ → Rational → Answer ℕ
early_power K k e = do
  refuse_if (point K k) (UnsupportedOperation 8 k absent)
  a ← operand K k
  cond (F.is_one e) (given k) (raised K k e)

-- one kind, unresolved
abbrev unresolved : Kinds
unresolved = kinds_by (unlisted ∷ []) None None

power_right : power unresolved 8 0 (Some F.one) ≡ given 0
unfolding power scaled F.is_one
power_right = refl

power_wrong : early_power unresolved 0 F.one ≡ refused (UnresolvedDimensions 0)
unfolding early_power operand
power_wrong = refl

-- ---- "trying the single fit before the rate, so 2×4 becomes a twin"
late_rate : Kinds → Rows → ℕ → ProductOp → ℕ → Answer ℕ
late_rate K rows l op r = do
  x ← derive K l op r
  settle (or_fitting K (neutral K l op r) x) (refused (NoProductKind x)) given (λ ks. known (rows l op r) (refused (UnresolvedTwin l op r ks)))

rate_right : product teaching no_rows 2 Mul 4 ≡ given 1
unfolding teaching listed product derive operand graded grade_by joined neutral neutral_by rated rated_by resolve fits carries picked D.product D.outcome D.equal G.product F.sum F.answer F.limited F.within F.lowest F.equal gcd euclid zip_with
rate_right = refl

rate_wrong : late_rate teaching no_rows 2 Mul 4 ≡ refused (UnresolvedTwin 2 Mul 4 (1 ∷ 5 ∷ []))
unfolding late_rate teaching listed derive operand graded grade_by joined neutral neutral_by fits carries picked D.product D.outcome D.equal G.product F.sum F.answer F.limited F.within F.lowest F.equal gcd euclid zip_with
rate_wrong = refl

-- ---- "looking up ids before 22"
late_quotient : Catalog → ℕ → Checked
late_quotient C i = do
  l ← called C i (C.row i).left
  refuse_if ((C.row i).commutative && same_op (C.row i).op Div) (CommutativeQuotient i)

-- no kinds, and a commutative quotient of ids that nothing has
abbrev lone : Catalog
lone = record {
  kind_count = 0;
  kind = λ k. absent_kind;
  dimensionless = [];
  time = [];
  row_count = 1;
  row = λ i. record { left = 97 ∷ []; right = 98 ∷ []; result = 99 ∷ []; op = Div; commutative = true };
}

quotient_right : row_rule lone 0 ≡ refused (CommutativeQuotient 0)
unfolding row_rule
quotient_right = refl

quotient_wrong : late_quotient lone 0 ≡ refused (Unknown 0)
unfolding late_quotient called find first
quotient_wrong = refl

-- ---- "giving a point for a fit"
fits_point : Kinds → Graded → ℕ → Bool
fits_point K x k = eqb (K.grade k) x.grade && found (K.dims k) (λ d. D.equal d x.dims) false

-- a volume over a flow is a duration, though the clock has the same dimensions
abbrev span : Graded
span = record { dims = bases (pos 0) (pos 1); grade = 0 }

fit_right : picked (fits teaching span) 9 ≡ 4 ∷ []
unfolding teaching listed fits carries picked D.equal F.equal
fit_right = refl

fit_wrong : picked (fits_point teaching span) 9 ≡ 3 ∷ 4 ∷ []
unfolding teaching listed fits_point picked D.equal F.equal
fit_wrong = refl

product_right : product teaching no_rows 1 Div 2 ≡ given 4
unfolding teaching listed product derive operand graded grade_by joined neutral neutral_by rated rated_by resolve fits carries picked D.quotient D.outcome D.equal G.product F.difference F.answer F.limited F.within F.lowest F.equal gcd euclid zip_with
product_right = refl
