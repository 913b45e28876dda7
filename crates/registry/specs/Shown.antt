-- What the code's answers show of the rules' answers.
use Rattle.std.specs.Prelude.{ℕ}
use Rattle.std.specs.declared.result.Result.{Result}
use Rattle.laws.specs.Out.{given, refused, ◌>>=◌, needed, known}
use Rattle.dimension.specs.Dimension as D
use Rattle.dimension.specs.declared.rational.Rational.{Rational}
use Rattle.dimension.specs.declared.dimensions.Dimensions.{Dimensions}
use Rattle.dimension.specs.declared.grade.ProductOp.{ProductOp}
use Rattle.rules.specs.Kinds.{Kinds, Rows, Graded, candidates}
use Rattle.rules.specs.Refusal as rule
use Rattle.rules.specs.Arithmetic as arithmetic
use Rattle.joined.specs.Shown.{dims_at}
use Rattle.fitting.specs.Shown.{at}
use Rattle.error.specs.Shown.{replied}
use Rattle.error.specs.declared.cause.Error.{Error}

-- a lookup's answer, by itself
unfoldable pub looked : rule.Answer ℕ → Result ℕ Error
looked m = replied (λ k. k) m

-- ---- the rules from where the code goes on
-- a product of this grade
abbrev pub joined_as : Kinds → ℕ → ProductOp → ℕ → ℕ → Graded
joined_as K l op r g = at (arithmetic.joined op (dims_at K l) (dims_at K r)) g

-- a product, from the kinds that fit
abbrev pub fitted_as : Kinds → Rows → ℕ → ProductOp → ℕ → Graded → rule.Answer ℕ
fitted_as K R l op r x =
    arithmetic.settle (candidates K x) (refused (rule.NoProductKind x)) given (λ ks. known (R l op r) (refused (rule.UnresolvedTwin l op r ks)))

-- a product whose dimensions and grade are derived
abbrev pub settled_as : Kinds → Rows → ℕ → ProductOp → ℕ → Graded → rule.Answer ℕ
settled_as K R l op r x =
    arithmetic.settle (arithmetic.resolve K l op r x) (refused (rule.NoProductKind x)) given (λ ks. known (R l op r) (refused (rule.UnresolvedTwin l op r ks)))

-- a power that has these dimensions
abbrev pub raised_as : Kinds → ℕ → Rational → Dimensions → rule.Answer ℕ
raised_as K k e d =
    arithmetic.settle (arithmetic.or_fitting K (arithmetic.neutral_power K k e) (record { dims = d; grade = 0 })) (refused (rule.NoPowerKind d)) given
    (λ ks. refused (rule.UnresolvedPowerTwin k e ks))

-- the same, from the kinds that fit
abbrev pub fitted_power : Kinds → ℕ → Rational → Dimensions → rule.Answer ℕ
fitted_power K k e d = arithmetic.settle (candidates K (at d 0)) (refused (rule.NoPowerKind d)) given (λ ks. refused (rule.UnresolvedPowerTwin k e ks))

-- a power of a kind that has these dimensions
abbrev pub over_as : Kinds → ℕ → Rational → Dimensions → rule.Answer ℕ
over_as K k e d = needed (D.power d e) (rule.PowerOverLimits k) >>= raised_as K k e

-- two kinds by the code of a token
unfoldable pub combine_by : Kinds → Rows → ℕ → ℕ → ℕ → rule.Answer ℕ
combine_by K R code l r = needed (arithmetic.op_by code) (rule.Malformed 0) >>= λ op. arithmetic.combine K R op l r
