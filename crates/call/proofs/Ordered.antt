-- 5, 40, then the run, and the lent list after it (`ordered`). Assumes nothing.
use Prim.Native.Nat.{ℕ}
use mathlib.Core.Path.{◌≡◌, refl, sym, ◌∙◌, ap}
use mathlib.Core.Bool.{true, false, true≢false}
use mathlib.Core.List.{List}
use Rattle.std.specs.declared.result.Result.{Result}
use Rattle.std.specs.declared.result.Result.TheVariants.{Ok, Err}
use Rattle.laws.specs.Out.{given, refused, ◌>>◌}
use Rattle.rules.specs.Refusal as why
use Rattle.rules.specs.Refusal.{Placed, twins_after}
use Rattle.rules.specs.Table.{kinds_of, rows_of}
use Rattle.rules.specs.Lookup.{roomy, tabled}
use Rattle.rules.specs.Formula as rule
use Rattle.rules.specs.Call.{call, formula_in}
use Rattle.error.specs.Shown.{fault, error_of, shown}
use Rattle.error.specs.declared.cause.Error.{Error}
use Rattle.error.specs.declared.fault.Fault.{Fault}
use Rattle.fitting.specs.Shown.{room_listed}
use Rattle.lookup.specs.Shown.{tested, lent, name_of, twins_of}
use Rattle.lookup.proofs.NamedTwins.{lent_after}
use Rattle.lookup.proofs.Whole.{after_placed}
use Rattle.formula.specs.declared.terms.Term.{Term}
use Rattle.formula.specs.Shown.{termed, term_as}
use Rattle.call.proofs.WalkNames.{formula_names}

-- ---- after a test, a placed rule
module _ (m : why.Answer (Unit {0})) (n : Placed rule.Term) where
  test_refused : {e : Error} → Err e ≡ tested m → Err (fault 0 e) ≡ termed (why.at 0 m >> n)
  unfolding tested termed
  test_refused {e} p = go m p
    where
      go : (m : why.Answer (Unit {0})) → Err e ≡ tested m → Err (fault 0 e) ≡ termed (why.at 0 m >> n)
      go (given u) q = let z : true ≡ false = cc in absurd (true≢false z)
      go (refused x) q = let z : e ≡ error_of x = cc in ap (λ (y : Error). Err (fault 0 y)) z

  test_passed : {u : Unit {0}} {v : Result Term Fault} → Ok u ≡ tested m → v ≡ termed n → v ≡ termed (why.at 0 m >> n)
  unfolding tested
  test_passed {u} {v} p h = go m p
    where
      go : (m : why.Answer (Unit {0})) → Ok u ≡ tested m → v ≡ termed (why.at 0 m >> n)
      go (given w) q = h
      go (refused x) q = let z : true ≡ false = cc in absurd (true≢false z)

-- ---- met by the code
module _ (t rows old bytes : List ℕ) where
  call_is : why.at 0 (lent t rows old) >> formula_in (kinds_of t) (rows_of rows) bytes ≡ call t rows old bytes
  unfolding lent call
  call_is = after_placed (roomy t old) (tabled t rows) (formula_in (kinds_of t) (rows_of rows) bytes)

  pub call_refused : {e : Error} → Err e ≡ tested (lent t rows old) → Err (fault 0 e) ≡ termed (call t rows old bytes)
  call_refused p = test_refused (lent t rows old) (formula_in (kinds_of t) (rows_of rows) bytes) p ∙ ap termed call_is

  pub call_ran : {u : Unit {0}} {v : Result Term Fault} → Ok u ≡ tested (lent t rows old) → v ≡ termed (formula_in (kinds_of t) (rows_of rows) bytes) → v ≡ termed (call t rows old bytes)
  call_ran p h = test_passed (lent t rows old) (formula_in (kinds_of t) (rows_of rows) bytes) p h ∙ ap termed call_is

  -- v is what was answered
  pub call_list : {v : Result Term Fault} {new : List ℕ} → v ≡ termed (call t rows old bytes) → new ≡ room_listed (twins_of (kinds_of t) (name_of v)) old → new ≡ twins_after (call t rows old bytes) old
  unfolding termed
  call_list {v} {new} e h =
      let z : v ≡ shown term_as (why.at 0 (lent t rows old) >> formula_in (kinds_of t) (rows_of rows) bytes) = e ∙ ap (λ (m : Placed rule.Term). shown term_as m) (sym call_is) in
      let f : new ≡ room_listed (twins_of (kinds_of t) (name_of (shown term_as (why.at 0 (lent t rows old) >> formula_in (kinds_of t) (rows_of rows) bytes)))) old = h ∙ ap (λ (w : Result Term Fault). room_listed (twins_of (kinds_of t) (name_of w)) old) z in
      lent_after term_as (kinds_of t) old t rows (formula_in (kinds_of t) (rows_of rows) bytes) (formula_names (kinds_of t) (rows_of rows) bytes) f ∙ ap (λ (m : Placed rule.Term). twins_after m old) call_is

pub ruleset ordered = (call_refused, call_ran, call_list)
