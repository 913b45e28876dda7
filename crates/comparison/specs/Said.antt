-- "each refusal number arises for its cause and for no other", of the number that code says. proofs/Said shows it.
use Rattle.std.specs.Prelude.{◌≡◌}
use Rattle.std.specs.declared.option.Option.TheVariants.{Some}
use Rattle.rules.specs.Refusal.{Refusal}
use Rattle.error.specs.Shown.{error_of, said_of}
use Rattle.guarantees.specs.Causes.{cause_by, cause_of}

-- the number said of a refusal tells its cause, and two refusals of which one number is said have one cause
abbrev pub SaidTells : Type 0
SaidTells = (x : Refusal) → cause_by (said_of (error_of x)).number ≡ Some (cause_of x)

abbrev pub SaidOneCause : Type 0
SaidOneCause = (x y : Refusal) → (said_of (error_of x)).number ≡ (said_of (error_of y)).number → cause_of x ≡ cause_of y
