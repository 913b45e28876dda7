-- The rules' answers as the code shows them, one law a return. Assumes nothing.
use Prim.Native.Nat.{ℕ}
use Rattle.std.specs.declared.result.Result.TheVariants.{Ok, Err}
use mathlib.Core.Path.{◌≡◌, sym, ◌∙◌}
use mathlib.Core.Bool.{Bool, true, false}
use borrow.Author.Tests.{eq-eqb, ne_eqb}
use Rattle.rules.specs.Kinds.{Kinds, point}
use Rattle.rules.specs.Arithmetic as rule
use Rattle.error.specs.declared.cause.Error.TheVariants as cause
use Rattle.registry.specs.Shown.{looked}

-- ---- 42
module _ (expected actual k : ℕ) where
  pub agree_same : expected ≡ actual → Ok k ≡ looked (rule.agree expected actual k)
  unfolding looked
  agree_same e = rw (eq-eqb expected actual e)

  pub agree_differ : (expected ≡ actual → ⊥) → Err (cause.KindMismatch expected actual) ≡ looked (rule.agree expected actual k)
  unfolding looked
  agree_differ e = rw (ne_eqb expected actual e)

-- ---- 43 of a point
module _ (K : Kinds) (code k : ℕ) {b : Bool} where
  pub scaled_point : b ≡ true → b ≡ point K k → Err (cause.UnsupportedOperation code k 65535) ≡ looked (rule.scaled K code k)
  unfolding looked rule.scaled
  scaled_point p e = rw (sym e ∙ p)

  pub scaled_plain : b ≡ false → b ≡ point K k → Ok k ≡ looked (rule.scaled K code k)
  unfolding looked rule.scaled
  scaled_plain p e = rw (sym e ∙ p)

pub ruleset answered = (agree_same, agree_differ, scaled_point, scaled_plain)
