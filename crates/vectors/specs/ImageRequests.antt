-- What a request of images.bin says of an answer (docs/VECTORS.md): a refusal's number, place and first value, or 0 where there is none.
use Rattle.std.specs.Prelude.{ℕ, Bool, ◌&&◌, eqb, get_or}
use Rattle.std.specs.declared.result.Result.{Result}
use Rattle.std.specs.declared.result.Result.TheVariants.{Ok, Err}
use Rattle.error.specs.Shown.{said_of}
use Rattle.error.specs.declared.fault.Fault.{Fault}

abbrev pub refusal_as : Fault → ℕ → ℕ → ℕ → Bool
refusal_as x number place value = eqb (said_of x.error).number number && eqb x.place place && eqb (get_or (said_of x.error).values 0 0) value

unfoldable pub told_as : Result (Unit {0}) Fault → ℕ → ℕ → ℕ → Bool
told_as (Ok u) number place value = eqb number 0
told_as (Err x) number place value = refusal_as x number place value
