-- What a check's answer tells: Ok that nothing is refused, Err that something is. Assumes nothing.
use mathlib.Core.Path.{◌≡◌, refl}
use mathlib.Core.Bool.{true, false, true≢false}
use Rattle.std.specs.declared.result.Result.TheVariants.{Ok, Err}
use Rattle.laws.specs.Out.{given, refused}
use Rattle.rules.specs.Refusal as rule
use Rattle.error.specs.Shown.{fine}
use Rattle.error.specs.declared.fault.Fault.{Fault}

pub fine_refused : (m : rule.Placed (Unit {0})) {f : Fault} → Err f ≡ fine m → (x : rule.Fault) × (m ≡ refused x)
unfolding fine
fine_refused (given u) e = let z : true ≡ false = cc in absurd (true≢false z)
fine_refused (refused x) e = (x, refl)

pub fine_given : (m : rule.Placed (Unit {0})) {u : Unit {0}} → Ok u ≡ fine m → m ≡ given tt
unfolding fine
fine_given (given u) e = refl
fine_given (refused x) e = let z : true ≡ false = cc in absurd (true≢false z)
