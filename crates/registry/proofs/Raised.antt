-- A power's answer: one law a return. Assumes nothing.
use Prim.Native.Nat.{ℕ}
use Rattle.std.specs.declared.result.Result.{Result}
use Rattle.std.specs.declared.result.Result.TheVariants.{Ok, Err}
use mathlib.Core.Path.{◌≡◌, refl, sym, ◌∙◌, ap}
use mathlib.Core.Bool.{Bool, true, false, not}
use mathlib.Core.List.{List}
use Rattle.std.specs.declared.option.Option.TheVariants.{None, Some}
use borrow.Author.Tests.{eq-eqb, ne_eqb}
use Rattle.laws.specs.Options.{is_some}
use Rattle.laws.specs.Out.{given, refused}
use Rattle.dimension.specs.Fraction as F
use Rattle.dimension.specs.Dimension as D
use Rattle.dimension.specs.declared.rational.Rational.{Rational}
use Rattle.dimension.specs.declared.dimensions.Dimensions.{Dimensions}
use Rattle.std.specs.declared.option.Option.{Option}
use Rattle.rules.specs.Kinds.{Kinds, point, candidates}
use Rattle.rules.specs.Refusal as why
use Rattle.rules.specs.Refusal.{told}
use lib.ListN.{length}
use Rattle.rules.specs.Arithmetic as rule
use Rattle.table.proofs.Links.{to_some, nowhere_none}
use Rattle.error.specs.declared.cause.Error.{Error}
use Rattle.error.specs.declared.cause.Error.TheVariants as cause
use Rattle.fitting.specs.Shown.{at, fit_of, twins_from}
use Rattle.fitting.specs.declared.sought.Fit.{Fit}
use Rattle.fitting.specs.declared.sought.Fit.TheVariants.{Only, Second, Nothing}
use Rattle.fitting.proofs.Twins.{only_fits, second_fits, nothing_fits, settle_several, twins_counted}
use Rattle.joined.specs.Shown.{dims_at}
use Rattle.derive.proofs.Derives.{is_none, is_some_law}
use Rattle.registry.specs.Shown.{looked, raised_as, fitted_power, over_as}

-- several kinds fit: 48
looked_twins : (k : ℕ) (e : Rational) (ks : List ℕ) → Err (cause.UnresolvedPowerTwin k e (length ks)) ≡ looked (refused (why.UnresolvedPowerTwin k e ks))
unfolding looked
looked_twins k e ks = refl

module _ (K : Kinds) (k : ℕ) (e : Rational) where
  -- ---- the only kind that fits these dimensions: c is what the words stand for, w what was found
  module _ (d : Dimensions) {c : Dimensions} (q : c ≡ d) {w : Fit} (f : w ≡ fit_of (candidates K (at c 0))) where
    pub fitted_only : {m : ℕ} → w ≡ Only m → Ok m ≡ looked (fitted_power K k e d)
    unfolding looked
    fitted_only p = rw (← q, only_fits (candidates K (at c 0)) p f)

    pub fitted_several : {m n : ℕ} → w ≡ Second m → n ≡ twins_from K (at c 0) m → Err (cause.UnresolvedPowerTwin k e n) ≡ looked (fitted_power K k e d)
    fitted_several p s =
        ap (λ (i : ℕ). Err (cause.UnresolvedPowerTwin k e i)) (s ∙ twins_counted K (at c 0) p f)
        ∙ looked_twins k e (candidates K (at c 0))
        ∙ ap looked (rw (← q) (sym (settle_several (candidates K (at c 0)) _ given _ (second_fits (candidates K (at c 0)) p f))))

    pub fitted_none : {y : Dimensions} → w ≡ Nothing → y ≡ c → Err (cause.NoPowerKind y) ≡ looked (fitted_power K k e d)
    unfolding looked
    fitted_none p s = rw (← q, nothing_fits (candidates K (at c 0)) p f, ← s)

  -- ---- u is what is known
  module _ (d : Dimensions) {u : Option ℕ} (q : u ≡ rule.neutral_power K k e) where
    pub raised_known : {m : ℕ} → u ≡ Some m → Ok m ≡ looked (raised_as K k e d)
    unfolding looked
    raised_known p = rw (to_some (rule.neutral_power K k e) p q)

    pub raised_fitted : {v : Result ℕ Error} → u ≡ None → v ≡ looked (fitted_power K k e d) → v ≡ looked (raised_as K k e d)
    raised_fitted p h = rw (nowhere_none (rule.neutral_power K k e) p q) h

  -- ---- 28
  module _ (d : Dimensions) {o : Option Dimensions} (f : o ≡ D.power d e) where
    pub power_over : o ≡ None → Err (cause.PowerOverLimits k) ≡ looked (over_as K k e d)
    unfolding looked
    power_over p = rw (← f, p)

    pub power_within : {v : Result ℕ Error} → {x : Dimensions} → o ≡ Some x → v ≡ looked (raised_as K k e x) → v ≡ looked (over_as K k e d)
    power_within p h = rw (← f, p) h

  -- ---- 46, 19
  module _ {g : ℕ} (f : g ≡ K.grade k) where
    pub raised_graded : (g ≡ 0 → ⊥) → Err (cause.UngradedPower g) ≡ looked (rule.raised K k e)
    unfolding looked rule.raised
    raised_graded p = rw (← f, ne_eqb g 0 p)

    module _ (z : g ≡ 0) {b : Bool} (r : b ≡ is_some (K.dims k)) where
      pub raised_unresolved : not b ≡ true → Err (cause.UnresolvedDimensions k) ≡ looked (rule.raised K k e)
      unfolding looked rule.raised rule.operand
      raised_unresolved p = rw (← f, eq-eqb g 0 z, is_none (K.dims k) r p)

      pub raised_resolved : {v : Result ℕ Error} → not b ≡ false → {d : Dimensions} → d ≡ dims_at K k → v ≡ looked (over_as K k e d) → v ≡ looked (rule.raised K k e)
      unfolding rule.raised rule.operand
      raised_resolved p q h = rw (← f, eq-eqb g 0 z, is_some_law (K.dims k) D.one r p, ← q) h

  -- ---- 43, one
  module _ (code : ℕ) {b : Bool} (f : b ≡ point K k) where
    pub power_point : b ≡ true → Err (cause.UnsupportedOperation code k 65535) ≡ looked (rule.power K code k (Some e))
    unfolding looked rule.power rule.scaled
    power_point p = rw (← f, p)

    module _ (p : b ≡ false) {c : Bool} (q : c ≡ F.is_one e) where
      pub power_one : c ≡ true → Ok k ≡ looked (rule.power K code k (Some e))
      unfolding looked rule.power rule.scaled
      power_one t = rw (← f, p, ← q, t)

      pub power_raised : {v : Result ℕ Error} → c ≡ false → v ≡ looked (rule.raised K k e) → v ≡ looked (rule.power K code k (Some e))
      unfolding rule.power rule.scaled
      power_raised t h = rw (← f, p, ← q, t) h

pub power_inexact : (K : Kinds) (code k : ℕ) → Err (cause.UnsupportedOperation code k 65535) ≡ looked (rule.power K code k None)
unfolding looked rule.power
power_inexact K code k = refl

pub ruleset powers = (fitted_only, fitted_several, fitted_none, raised_known, raised_fitted, power_over, power_within, raised_graded, raised_unresolved, raised_resolved, power_point, power_one, power_raised, power_inexact)
