-- 01, 'Products, sums and powers': each in 01's order, line by line or along `>>`.
use Rattle.std.specs.Prelude.{ℕ, cond, not, ◌||◌, List, [], ◌∷◌, map, eqb, ltb, get_or}
use Rattle.std.specs.declared.option.Option.{Option}
use Rattle.std.specs.declared.option.Option.TheVariants.{None, Some}
use Rattle.laws.specs.Options.{found, or_else}
use Rattle.laws.specs.Out.{Out, given, refused, ◌>>=◌, ◌>>◌, refuse_if, needed, known}
use Rattle.dimension.specs.Fraction as F
use Rattle.dimension.specs.Dimension as D
use Rattle.dimension.specs.Grade as G
use Rattle.dimension.specs.declared.rational.Rational.{Rational}
use Rattle.dimension.specs.declared.dimensions.Dimensions.{Dimensions}
use Rattle.dimension.specs.declared.grade.ProductOp.{ProductOp}
use Rattle.dimension.specs.declared.grade.ProductOp.TheVariants.{Mul, Div, Dot, Wedge}
use Rattle.rules.specs.Kinds.{Kinds, Rows, Graded, same_op, point, duration, candidates}
use Rattle.rules.specs.Refusal.{Answer, UnresolvedDimensions, Point, Ungraded, PowerOverLimits, NoKind, KindMismatch, UnsupportedOperation, UnresolvedTwin, NoProductKind, UngradedPower, NoPowerKind, UnresolvedPowerTwin, absent, code_of}

-- 41: "kind index past the end"
unfoldable pub indexed : Kinds → ℕ → Answer (Unit {0})
indexed K k = refuse_if (not (ltb k K.count)) (NoKind k)

-- 19: its dimensions
unfoldable pub operand : Kinds → ℕ → Answer Dimensions
operand K k = needed (K.dims k) (UnresolvedDimensions k)

-- the grade rule, the same for every catalog
unfoldable pub grade_by : Kinds → ProductOp → ℕ → ℕ → Option ℕ
grade_by K op a b = G.product op a b

-- 24: "no single grade", returning the "kinds, grades"
unfoldable pub graded : Kinds → ℕ → ProductOp → ℕ → Answer ℕ
graded K l op r = needed (grade_by K op (K.grade l) (K.grade r)) (Ungraded l r (K.grade l) (K.grade r))

-- "products add or subtract exponents"
unfoldable pub joined : ProductOp → Dimensions → Dimensions → Dimensions
joined op a b = cond (same_op op Div) (D.or_one (D.quotient a b)) (D.or_one (D.product a b))

-- "Then for a product: 19 left, 19 right, 23 left, 23 right, 24."
unfoldable pub derive : Kinds → ℕ → ProductOp → ℕ → Answer Graded
derive K l op r = do
  a ← operand K l
  b ← operand K r
  refuse_if (point K l) (Point l op r l)
  refuse_if (point K r) (Point l op r r)
  g ← graded K l op r
  given (record { dims = joined op a b; grade = g })

-- "Then the dimensionless kind is neutral in Mul (right, then left) and as divisor, and left = right in Div gives it"
unfoldable pub neutral_by : ProductOp → ℕ → ℕ → ℕ → Option ℕ
neutral_by Mul o l r = cond (eqb r o) (Some l) (cond (eqb l o) (Some r) None)
neutral_by Div o l r = cond (eqb r o) (Some l) (cond (eqb l r) (Some o) None)
neutral_by Dot o l r = None
neutral_by Wedge o l r = None

-- nothing is neutral where no dimensionless kind is declared
unfoldable pub neutral : Kinds → ℕ → ProductOp → ℕ → Option ℕ
neutral K l op r = found K.dimensionless (λ o. neutral_by op o l r) None

-- "then a rate times duration gives its target, and the target over duration its rate"
unfoldable pub rated_by : Kinds → ProductOp → ℕ → ℕ → ℕ → Option ℕ
rated_by K Mul d l r = cond (eqb r d) (K.rate_of l) (cond (eqb l d) (K.rate_of r) None)
rated_by K Div d l r = cond (eqb r d) (K.rate l) None
rated_by K Dot d l r = None
rated_by K Wedge d l r = None

-- no kind is a rate's target or rate where there is no duration
unfoldable pub rated : Kinds → ℕ → ProductOp → ℕ → Option ℕ
rated K l op r = found (duration K) (λ d. rated_by K op d l r) None

-- the kind that is known already, or else those that fit
abbrev pub or_fitting : Kinds → Option ℕ → Graded → List ℕ
or_fitting K o x = found o (λ k. k ∷ []) (candidates K x)

-- the dimensionless kind, then the rate, and only then what fits
unfoldable pub resolve : Kinds → ℕ → ProductOp → ℕ → Graded → List ℕ
resolve K l op r x = or_fitting K (or_else (neutral K l op r) (rated K l op r)) x

-- "then one fitting non-point kind is the answer, none is 45, several need the row": what is said where there is none, one, or several
abbrev pub settle : {A : Type 0} → List ℕ → A → (ℕ → A) → (List ℕ → A) → A
settle [] nothing one many = nothing
settle (k ∷ []) nothing one many = one k
settle (k ∷ m ∷ ks) nothing one many = many (k ∷ m ∷ ks)

-- "The answer reads, of all rows, only that of this very left, operation and right."
unfoldable pub product : Kinds → Rows → ℕ → ProductOp → ℕ → Answer ℕ
product K rows l op r = do
  x ← derive K l op r
  settle (resolve K l op r x) (refused (NoProductKind x)) given (λ ks. known (rows l op r) (refused (UnresolvedTwin l op r ks)))

-- ---- sums
pub data Sum : Type 0 where
  Add Sub : Sum

-- 42
abbrev pub agree : ℕ → ℕ → ℕ → Answer ℕ
agree expected actual k = cond (eqb expected actual) (given k) (refused (KindMismatch expected actual))

-- "Sum: point − same point gives the difference; point ± its difference gives the point; difference + point likewise; equal non-points give
-- themselves." By the differences of left and right, which points alone have. Otherwise as the Rust's `Kind::sum`: 43 for point + point and for
-- non-point − point, else 42
unfoldable pub sum_by : Sum → Option ℕ → Option ℕ → ℕ → ℕ → Answer ℕ
sum_by Sub (Some d) (Some e) l r = agree l r d
sum_by Add (Some d) (Some e) l r = refused (UnsupportedOperation 2 l r)
sum_by s (Some d) None l r = agree d r l
sum_by Add None (Some e) l r = agree e l r
sum_by Sub None (Some e) l r = refused (UnsupportedOperation 3 l r)
sum_by s None None l r = agree l r l

-- a sum of kinds by their differences
unfoldable pub sum : Kinds → Sum → ℕ → ℕ → Answer ℕ
sum K s l r = sum_by s (K.difference l) (K.difference r) l r

-- times or over a number, or without its sign: the Rust's `Kind::scaled`
unfoldable pub scaled : Kinds → ℕ → ℕ → Answer ℕ
scaled K code k = refuse_if (point K k) (UnsupportedOperation code k absent) >> given k

-- ---- powers
-- "then exponent zero or the dimensionless kind gives that kind where declared"
unfoldable pub neutral_power : Kinds → ℕ → Rational → Option ℕ
neutral_power K k e = found K.dimensionless (λ o. cond (F.is_zero e || eqb k o) (Some o) None) None

-- "46, 19, 28, then .., then 47 or 48"
unfoldable pub raised : Kinds → ℕ → Rational → Answer ℕ
raised K k e = do
  refuse_if (not (eqb (K.grade k) 0)) (UngradedPower (K.grade k))
  a ← operand K k
  d ← needed (D.power a e) (PowerOverLimits k)
  settle (or_fitting K (neutral_power K k e) (record { dims = d; grade = 0 })) (refused (NoPowerKind d)) given (λ ks. refused (UnresolvedPowerTwin k e ks))

-- "Power: 43 (point or inexact), exponent one gives the kind". No exponent: an inexact one; the code is the token's. A point is refused as in
-- a scaling
unfoldable pub power : Kinds → ℕ → ℕ → Option Rational → Answer ℕ
power K code k None = refused (UnsupportedOperation code k absent)
power K code k (Some e) = scaled K code k >> cond (F.is_one e) (given k) (raised K k e)

-- ---- the Rust's `Op`: what two kinds are combined by
pub data Op : Type 0 where
  summed : Sum → Op
  multiplied : ProductOp → Op

-- `Kind::combine`
unfoldable pub combine : Kinds → Rows → Op → ℕ → ℕ → Answer ℕ
combine K rows o l r = elim o [ summed s ↦ sum K s l r | multiplied op ↦ product K rows l op r ]

-- "2 Add, 3 Sub, 4 Mul, 5 Div, 6 Dot, 7 Wedge"
abbrev pub ops : List Op
ops = summed Add ∷ summed Sub ∷ multiplied Mul ∷ multiplied Div ∷ multiplied Dot ∷ multiplied Wedge ∷ []

-- the operation that a lone lookup names by its token's code: 2 to 7, and none else
unfoldable pub op_by : ℕ → Option Op
op_by code = get_or (None ∷ None ∷ map Some ops) code None

-- and back: the code of an operation's token
abbrev pub op_code : Op → ℕ
op_code (summed Add) = 2
op_code (summed Sub) = 3
op_code (multiplied op) = code_of op
