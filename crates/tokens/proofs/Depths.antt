-- The depth is what the walk that looks for a malformed formula keeps: a stack of units is known by its length. Assumes nothing.
use Prim.Native.Nat.{ℕ, zero, suc, ◌+◌, ◌-◌}
use mathlib.Core.Path.{◌≡◌, refl, sym, ap, ◌∙◌}
use mathlib.Core.Bool.{Bool, true, false, cond}
use mathlib.Core.List.{List, [], ◌∷◌}
use Rattle.std.specs.declared.option.Option.TheVariants.{None, Some}
use native.Mathlib.Omega.{arith}
use native.Mathlib.Numerals.{add-one}
use borrow.Author.Tests.{lt-ltb}
use lib.Dec.{ltb}
use lib.ListN.{length}
use Rattle.dimension.specs.Fraction as F
use Rattle.laws.specs.Out.{given}
use Rattle.rules.specs.Formula as rule
use Rattle.rules.specs.Formula.{number, kind, unary, binary, unreadable, exact, inexact, absolute, combined, compared, on, stop, bad, shape, step, walk, malformed_at}
use Rattle.tokens.specs.Shown.{coded, grown, kept, joined, after, units}
use Rattle.tokens.specs.declared.token.Token.{Token}
use Rattle.tokens.specs.declared.token.Token.TheVariants.{Unary, Unreadable}
use Rattle.tokens.specs.declared.token.Unary.TheVariants.{Exact}
use Rattle.std.specs.declared.option.Option.{Option}

pub length_units : (d : ℕ) → length (units d) ≡ d
unfolding units
length_units zero = refl
length_units (suc d) = ap suc (length_units d)

pub units_length : (s : List (Unit {0})) → units (length s) ≡ s
unfolding units
units_length [] = refl
units_length (u ∷ s) = ap (λ (l : List (Unit {0})). tt ∷ l) (units_length s)

-- ---- one step, by the depth alone
abbrev pub depth_of : rule.Step ⊥ (Unit {0}) → Option ℕ
depth_of (on s) = Some (length s)
depth_of (stop x) = absurd x
depth_of bad = None

grown_is : (d : ℕ) → grown d ≡ depth_of (rule.with_none (given tt) (units d))
unfolding grown
grown_is d = rw (length_units d) (go (ltb d 32))
  where
    go : (b : Bool) → cond b (Some (d + 1)) None ≡ depth_of (cond b (on (tt ∷ units d)) bad)
    go true = ap Some (add-one d ∙ ap suc (sym (length_units d)))
    go false = refl

kept_is : (d : ℕ) → kept d ≡ depth_of (rule.with_one (λ a. given tt) (units d))
unfolding kept units
kept_is zero = refl
kept_is (suc d) = rw (lt-ltb 0 (suc d) (omega arith)) (ap Some (ap suc (sym (length_units d))))

joined_is : (d : ℕ) → joined d ≡ depth_of (rule.with_two (λ a b. given tt) (units d))
unfolding joined units
joined_is zero = refl
joined_is (suc zero) = refl
joined_is (suc (suc d)) =
    let p : suc (suc d) - 1 ≡ suc d = omega arith in
    rw (lt-ltb 1 (suc (suc d)) (omega arith), p) (ap Some (ap suc (sym (length_units d))))

pub after_is : (t : rule.Token) (d : ℕ) → after (coded t) d ≡ depth_of (step shape t (units d))
unfolding shape
after_is number d = grown_is d
after_is (kind k) d = grown_is d
after_is (unary (exact e)) d = go (F.within e)
  where
    go : (b : Bool) → after (cond b (Unary (Exact e)) Unreadable) d ≡ depth_of (cond b (rule.with_one (λ a. given tt) (units d)) bad)
    go true = kept_is d
    go false = refl
after_is (unary inexact) d = kept_is d
after_is (unary absolute) d = kept_is d
after_is (binary (combined op)) d = joined_is d
after_is (binary compared) d = joined_is d
after_is unreadable d = refl

-- what the code's depth tells of the step
step_to : (S : rule.Step ⊥ (Unit {0})) {d : ℕ} → Some d ≡ depth_of S → S ≡ on (units d)
step_to (on s) {d} e = let p : length s ≡ d = cc in ap on (sym (units_length s) ∙ ap units p)
step_to (stop x) e = absurd x
step_to bad e = cc

step_wrong : (S : rule.Step ⊥ (Unit {0})) → None ≡ depth_of S → S ≡ bad
step_wrong (on s) e = cc
step_wrong (stop x) e = absurd x
step_wrong bad e = refl

module _ (t : rule.Token) (d : ℕ) {v : Token} {r : Option ℕ} where
  pub goes_on : {e : ℕ} → r ≡ Some e → v ≡ coded t → r ≡ after v d → step shape t (units d) ≡ on (units e)
  goes_on p q h = step_to _ (sym p ∙ h ∙ ap (λ (w : Token). after w d) q ∙ after_is t d)

  pub goes_wrong : r ≡ None → v ≡ coded t → r ≡ after v d → step shape t (units d) ≡ bad
  goes_wrong p q h = step_wrong _ (sym p ∙ h ∙ ap (λ (w : Token). after w d) q ∙ after_is t d)

-- ---- the end of the walk
abbrev ended : rule.Ended ⊥ (Unit {0}) → Option ℕ
ended (rule.answered u) = None
ended (rule.stopped p x) = absurd x
ended (rule.malformed p) = Some p

ended_is : (toks : List rule.Token) → ended (walk shape toks 0 []) ≡ (malformed_at toks)
unfolding malformed_at
ended_is toks = go (walk shape toks 0 [])
  where
    go : (v : rule.Ended ⊥ (Unit {0})) → ended v ≡ (elim v [ rule.answered u ↦ None | rule.stopped p x ↦ absurd x | rule.malformed p ↦ Some p ])
    go (rule.answered u) = refl
    go (rule.stopped p x) = absurd x
    go (rule.malformed p) = refl

module _ (toks : List rule.Token) (k : ℕ) where
  pub shape_bad : rule.malformed k ≡ walk shape toks 0 [] → Some k ≡ (malformed_at toks)
  shape_bad e = ap ended e ∙ ended_is toks

  pub shape_fine : (d : ℕ) → rule.last k (units d) ≡ walk shape toks 0 [] → d ≡ 1 → None ≡ (malformed_at toks)
  unfolding units
  shape_fine d e p = ap ended (rw p at e) ∙ ended_is toks

  pub shape_many : (d : ℕ) → rule.last k (units d) ≡ walk shape toks 0 [] → (d ≡ 1 → ⊥) → Some k ≡ (malformed_at toks)
  unfolding units
  shape_many zero e p = ap ended e ∙ ended_is toks
  shape_many (suc zero) e p = absurd (p refl)
  shape_many (suc (suc d)) e p = ap ended e ∙ ended_is toks

pub ruleset depths = (goes_on, goes_wrong, shape_bad, shape_fine, shape_many)
