-- What `is_some_and` tells where its test holds of one value alone. Assumes nothing.
use mathlib.Core.Path.{◌≡◌, sym, ◌∙◌, ap}
use mathlib.Core.Bool.{Bool, true, false}
use Rattle.std.specs.declared.option.Option.{Option}
use Rattle.std.specs.declared.option.Option.TheVariants.{None, Some}
use Rattle.std.specs.Option.{MatchOption}
use Rattle.std.proofs.Common.{true≢false}

pub found_stored : {A : Type 0} (found : Option A) (stored : A) {r : Bool} {P : A → Type 0} → MatchOption found (r ≡ false) P → ((x : A) → P x → r ≡ true → x ≡ stored) → r ≡ true → found ≡ Some stored
found_stored None stored h same e = absurd (true≢false (sym e ∙ h))
found_stored (Some x) stored h same e = ap Some (same x h e)
