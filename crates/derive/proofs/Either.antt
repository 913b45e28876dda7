-- A test of two parts, the first of which a call answered, decides whether there is a link (`eithers`). Assumes nothing.
use Prim.Native.Nat.{ℕ}
use mathlib.Core.Path.{◌≡◌}
use mathlib.Core.Bool.{Bool, true, false, cond, ◌||◌}
use Rattle.std.specs.declared.option.Option.TheVariants.{None, Some}

module _ {v w : Bool} (t : Bool) (k : ℕ) (e : v ≡ w) where
  pub either_to : (v || t) ≡ true → Some k ≡ cond (w || t) (Some k) None
  either_to p = rw (← e, p)

  pub either_nowhere : (v || t) ≡ false → None ≡ cond (w || t) (Some k) None
  either_nowhere p = rw (← e, p)

pub ruleset eithers = (either_to, either_nowhere)
