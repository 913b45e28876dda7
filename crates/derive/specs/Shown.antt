-- What the code's answers show of the rules'.
use Rattle.std.specs.Prelude.{ℕ, List}
use Rattle.std.specs.declared.result.Result.{Result}
use Rattle.std.specs.declared.result.Result.TheVariants.{Ok, Err}
use Rattle.laws.specs.Out.{given, refused}
use Rattle.rules.specs.Kinds as kinds
use Rattle.rules.specs.Refusal.{Answer}
use Rattle.rules.specs.Arithmetic as rule
use Rattle.error.specs.Shown.{error_of}
use Rattle.error.specs.declared.cause.Error.{Error}
use Rattle.derive.specs.declared.derivation.Graded.{Graded}
use Rattle.derive.specs.declared.resolution.Several.{Several}
use Rattle.derive.specs.declared.resolution.Several.TheVariants.{Is, Many, Nothing}

-- ---- a derivation: its grade alone, and with dimensions
abbrev pub ruled_as : Answer kinds.Graded → Result ℕ Error
ruled_as (given x) = Ok x.grade
ruled_as (refused x) = Err (error_of x)

abbrev pub derived : Answer kinds.Graded → Result Graded Error
derived (given x) = Ok (record { dims = x.dims; grade = x.grade })
derived (refused x) = Err (error_of x)

-- ---- a resolution, without the kinds that fit
abbrev pub several_of : List ℕ → Several
several_of ks = rule.settle ks Nothing Is (λ more. Many)
