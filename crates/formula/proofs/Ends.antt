-- What a step tells once it is looked at, how the run ends, and what a formula's shape makes of it. Assumes nothing.
use Prim.Native.Nat.{ℕ, zero, suc, ◌-◌, ◌/◌, ◌<◌, ◌≤◌}
use mathlib.Core.Path.{◌≡◌, refl, sym, ap}
use mathlib.Core.Bool.{true, false, true≢false}
use mathlib.Core.List.{List, [], ◌∷◌}
use lib.ListN.{length, get_or}
use Rattle.std.specs.declared.option.Option.{Option}
use Rattle.std.specs.declared.option.Option.TheVariants.{None, Some}
use Rattle.std.specs.declared.result.Result.{Result}
use Rattle.std.specs.declared.result.Result.TheVariants.{Ok, Err}
use Rattle.std.specs.Result.{MatchResult, is_ok}
use Rattle.rules.specs.Kinds.{Kinds, Rows}
use Rattle.rules.specs.Refusal as why
use Rattle.rules.specs.Formula as rule
use Rattle.rules.specs.Token.{token_at, tokens_in}
use Rattle.rules.specs.Call.{ending, formula_in}
use Rattle.tokens.specs.Shown.{coded, remaining, malformed_in}
use Rattle.tokens.specs.declared.token.Token.{Token}
use Rattle.tokens.proofs.Turns.{halt, misplaced}
use Rattle.tokens.proofs.Placed.{fine_formula, bad_formula}
use Rattle.error.specs.Shown.{error_of, fault}
use Rattle.error.specs.declared.cause.Error.{Error}
use Rattle.error.specs.declared.cause.Error.TheVariants as cause
use Rattle.error.specs.declared.fault.Fault.{Fault}
use Rattle.formula.specs.Shown.{termed, term_as, term_of, stack_of, next_by, shown_step, Stepped}
use Rattle.formula.specs.declared.terms.Term.{Term}
use Rattle.formula.specs.declared.terms.Term.TheVariants.{Number, Kind}
use Rattle.formula.specs.declared.stack.Put.{Put}
use Rattle.formula.proofs.Held.{steps, step_coded}

abbrev Steps : Type 0
Steps = rule.Step why.Refusal rule.Term

abbrev Ending : Type 0
Ending = rule.Ended why.Refusal rule.Term

on_back : (S : Steps) (p : ℕ) {s : List rule.Term} → Ok s ≡ shown_step p S → S ≡ rule.on s
on_back (rule.on s') p e = cc
on_back (rule.stop x) p e = cc
on_back rule.bad p e = cc

-- ---- what `map_err` tells under `?`, of m by r: where m is Ok so is r, and where m is Err r has an error, of which the closure tells Q
module _ {A E F : Type 0} where
  pub kept_ok : (Q : E → Type 0) (r : Result A E) {m : Result A F} {x : A} → m ≡ Ok x → MatchResult r (λ t. m ≡ Ok t) Q → is_ok m ≡ is_ok r → r ≡ Ok x
  kept_ok Q (Ok t) {m} {x} p h v = let z : x ≡ t = cc in ap Ok (sym z)
  kept_ok Q (Err e) p h v = let z : true ≡ false = rw p at v in absurd (true≢false z)

  pub told_err : {Q : E → Type 0} {C : Type 0} (r : Result A E) {m : Result A F} {y : F} → m ≡ Err y → MatchResult r (λ t. m ≡ Ok t) Q → ((e : E) → r ≡ Err e → Q e → C) → C
  told_err (Ok t) p h f = let z : true ≡ false = cc in absurd (true≢false z)
  told_err (Err e) p h f = f e refl h

-- over the n terms that the array a holds, the code's step of token k, which is t, came to r
module _ (K : Kinds) (R : Rows) (s : List ℕ) (k n : ℕ) (a : List Term) {i j : ℕ} {t : Token} {r : Result Put Error} (e : r ≡ next_by K R t n k (get_or a i Number) (get_or a j Number)) (f : i ≡ n - 2) (g : j ≡ n - 1) (q : t ≡ coded (token_at s k)) (l : n ≤ 32) where
  stepped : Stepped a k (rule.step (rule.terms K R) (token_at s k) (stack_of a n)) r
  stepped =
      let z = steps K R a k n t l (ap (λ m. get_or a m Number) f) (ap (λ m. get_or a m Number) g) e in
      let w = rw q at z in
      rw (step_coded K R (token_at s k) (stack_of a n)) at w

  pub goes_on : {x : Put} → r ≡ Ok x → rule.step (rule.terms K R) (token_at s k) (stack_of a n) ≡ rule.on (term_of x.term ∷ stack_of a x.at)
  goes_on p = on_back _ _ (rw p at stepped.went)

  pub goes_under : {x : Put} → r ≡ Ok x → x.at < 32
  goes_under p = rw p at stepped.room

  -- the walk that the loop has still before it comes to v
  module _ {v : Ending} {m : ℕ} (inv : rule.walk (rule.terms K R) (remaining s k) k (stack_of a n) ≡ v) (count : m ≡ length s / 12) (more : k < m) where
    pub stops : {e : Error} {y : Fault} → r ≡ Err e → y ≡ fault k e → Err y ≡ termed (ending v)
    unfolding termed
    stops {e} {y} p h = go (rule.step (rule.terms K R) (token_at s k) (stack_of a n)) refl (rw p at stepped.went)
      where
        go : (S : Steps) → rule.step (rule.terms K R) (token_at s k) (stack_of a n) ≡ S → Err e ≡ shown_step k S → Err y ≡ termed (ending v)
        go (rule.on s') b w = cc
        go (rule.stop x) b w = let i : e ≡ error_of x = cc in rw (h, i, ← halt (rule.terms K R) s k (stack_of a n) inv count more b)
        go rule.bad b w = let i : e ≡ cause.Malformed k = cc in rw (h, i, ← misplaced (rule.terms K R) s k (stack_of a n) inv count more b)

-- ---- the end
term_back : (x : Term) → term_as (term_of x) ≡ x
term_back Number = refl
term_back (Kind k) = refl

module _ (a : List Term) (p d : ℕ) where
  pub one_left : d ≡ 1 → Ok (get_or a 0 Number) ≡ termed (ending (rule.last p (stack_of a d)))
  unfolding stack_of termed
  one_left e = rw e (ap Ok (sym (term_back (get_or a 0 Number))))

pub not_one_left : (a : List Term) (p d : ℕ) {y : Fault} → (d ≡ 1 → ⊥) → y ≡ fault p (cause.Malformed p) → Err y ≡ termed (ending (rule.last p (stack_of a d)))
unfolding stack_of termed
not_one_left a p zero e h = ap Err h
not_one_left a p (suc zero) e h = absurd (e refl)
not_one_left a p (suc (suc d)) e h = ap Err h

-- ---- 50 first
module _ (K : Kinds) (R : Rows) (s : List ℕ) {w : Option ℕ} (m : w ≡ malformed_in s) where
  pub run_bad : {p : ℕ} {y : Fault} → w ≡ Some p → y ≡ fault p (cause.Malformed p) → Err y ≡ termed (formula_in K R s)
  unfolding termed
  run_bad q h = rw (bad_formula s K R q m, h)

  pub run_fine : {v : Result Term Fault} → w ≡ None → v ≡ termed (ending (rule.walk (rule.terms K R) (tokens_in s) 0 [])) → v ≡ termed (formula_in K R s)
  run_fine q h = rw (fine_formula s K R q m) h

pub ruleset turns = (goes_under, stops)

pub ruleset ends = (one_left, not_one_left, run_bad, run_fine)
