-- What a refusal of code names, the kinds that fit it, and the rules of a lone lookup part by part.
use Rattle.std.specs.Prelude.{ℕ, List, [], ◌∷◌, get_or}
use Rattle.std.specs.declared.option.Option.{Option}
use Rattle.std.specs.declared.option.Option.TheVariants.{None, Some}
use Rattle.std.specs.declared.result.Result.{Result}
use Rattle.std.specs.declared.result.Result.TheVariants.{Ok, Err}
use Rattle.laws.specs.Out.{given, refused, ◌>>=◌, ◌>>◌, needed}
use Rattle.dimension.specs.Dimension as D
use Rattle.dimension.specs.declared.rational.Rational.{Rational}
use Rattle.dimension.specs.declared.grade.ProductOp.{ProductOp}
use Rattle.dimension.specs.declared.grade.ProductOp.TheVariants.{Mul, Div, Dot, Wedge}
use Rattle.rules.specs.Kinds.{Kinds, Rows, candidates}
use Rattle.rules.specs.Refusal as why
use Rattle.rules.specs.Refusal.{Placed}
use Rattle.rules.specs.Arithmetic as rule
use Rattle.rules.specs.Table.{kinds_of, rows_of}
use Rattle.rules.specs.Lookup as lone
use Rattle.fitting.specs.Shown.{at}
use Rattle.joined.specs.Shown.{dims_at}
use Rattle.error.specs.declared.cause.Error.{Error}
use Rattle.error.specs.declared.cause.Error.TheVariants as cause
use Rattle.error.specs.declared.fault.Fault.{Fault}
use Rattle.error.specs.Shown.{fault, replied, shown}
use Rattle.lookup.specs.declared.twins.Origin.{Origin}
use Rattle.lookup.specs.declared.twins.Origin.TheVariants.{Product, Power}
use Rattle.lookup.specs.declared.lone.Exponent.{Exponent}
use Rattle.lookup.specs.declared.lone.Exponent.TheVariants as exponent

-- the operation whose token has this code
unfoldable pub op_by : ℕ → ProductOp
op_by code = get_or (Wedge ∷ Wedge ∷ Wedge ∷ Wedge ∷ Mul ∷ Div ∷ Dot ∷ []) code Wedge

-- the product or power of which a refusal says that several kinds fit
unfoldable pub named : Error → Option Origin
named (cause.ImageLength n) = None
named (cause.WrongBlock b) = None
named (cause.Schema v) = None
named (cause.WrongByte i) = None
named (cause.Short n) = None
named (cause.EmptyId k) = None
named (cause.Duplicate k) = None
named (cause.Unknown i) = None
named (cause.AffineDimensionMismatch k d) = None
named (cause.NestedAffineSpace k d) = None
named (cause.InvalidDimensionlessKind k) = None
named (cause.InvalidTimeKind k) = None
named (cause.NoTimeKind k t) = None
named (cause.PointRate k t p) = None
named (cause.UnresolvedDimensions k) = None
named (cause.RateMismatch d g) = None
named (cause.AlsoRateOf k) = None
named (cause.CommutativeQuotient i) = None
named (cause.Point l op r k) = None
named (cause.Ungraded l r a b) = None
named (cause.InvalidOperationRule d g) = None
named (cause.DerivedOperationRule k) = None
named (cause.ConflictingOperationRule l r) = None
named (cause.PowerOverLimits k) = None
named cause.NoTable = None
named (cause.NoKind k) = None
named (cause.KindMismatch x a) = None
named (cause.UnsupportedOperation c l r) = None
named (cause.NoProductKind d g) = None
named (cause.UngradedPower g) = None
named (cause.NoPowerKind d) = None
named (cause.NumberTerm c k) = None
named (cause.Malformed p) = None
named (cause.UnresolvedTwin l op r n) = Some (Product l (op_by op) r)
named (cause.UnresolvedPowerTwin k e n) = Some (Power k e)

-- what an answer names
unfoldable pub name_of : {A : Type 0} → Result A Fault → Option Origin
name_of (Ok a) = None
name_of (Err x) = named x.error

-- the kinds that fit a product, where it is derived
unfoldable pub fits_derived : Kinds → ℕ → ProductOp → ℕ → List ℕ
fits_derived K l op r = elim (rule.derive K l op r) [ given x ↦ candidates K x | refused e ↦ [] ]

unfoldable pub twins_from : Kinds → Origin → List ℕ
twins_from K (Product l op r) = fits_derived K l op r
twins_from K (Power k e) = candidates K (at (D.or_one (D.power (dims_at K k) e)) 0)

unfoldable pub twins_of : Kinds → Option Origin → List ℕ
twins_of K None = []
twins_of K (Some n) = twins_from K n

-- an exponent as it is handed over
abbrev pub exponent_of : Exponent → lone.Exponent
exponent_of (exponent.Exact num den) = lone.exact num den
exponent_of exponent.Inexact = lone.inexact

-- ---- answers
-- a lone lookup's answer
unfoldable pub placed : Placed ℕ → Result ℕ Fault
placed m = shown (λ k. k) m

-- what is looked up, at the place of every lone lookup
unfoldable pub at_start : Result ℕ Error → Result ℕ Fault
at_start (Ok k) = Ok k
at_start (Err e) = Err (fault 0 e)

-- what a test answers
unfoldable pub tested : why.Answer (Unit {0}) → Result (Unit {0}) Error
tested m = replied (λ u. u) m

-- ---- the rules part by part
-- 5, 40 of what is lent
unfoldable pub lent : List ℕ → List ℕ → List ℕ → why.Answer (Unit {0})
lent t rows twins = lone.roomy t twins >> lone.tabled t rows

-- 50, 41, 41
unfoldable pub indexed_combine : Kinds → Rows → ℕ → ℕ → ℕ → why.Answer ℕ
indexed_combine K R code l r = do
  op ← needed (rule.op_by code) (why.Malformed 0)
  rule.indexed K l
  rule.indexed K r
  rule.combine K R op l r

-- 41
unfoldable pub indexed_power : Kinds → ℕ → ℕ → Option Rational → why.Answer ℕ
indexed_power K code k e = do
  rule.indexed K k
  rule.power K code k e

-- 50, 41
unfoldable pub power_by : Kinds → ℕ → lone.Exponent → why.Answer ℕ
power_by K k x = do
  e ← lone.exponent x
  indexed_power K (lone.power_code x) k e

-- ---- a lone lookup whole, but for its place
unfoldable pub lent_combine : List ℕ → List ℕ → List ℕ → ℕ → ℕ → ℕ → why.Answer ℕ
lent_combine t rows twins code l r = lent t rows twins >> indexed_combine (kinds_of t) (rows_of rows) code l r

unfoldable pub lent_power : List ℕ → List ℕ → ℕ → lone.Exponent → why.Answer ℕ
lent_power t twins k x = lent t [] twins >> power_by (kinds_of t) k x
