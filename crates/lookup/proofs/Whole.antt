-- A lone lookup whole: its place, and the lent list after it (`wholes`). Assumes nothing.
use Prim.Native.Nat.{ℕ}
use mathlib.Core.Path.{◌≡◌, refl, sym, ◌∙◌, ap}
use mathlib.Core.List.{List, []}
use Rattle.std.specs.declared.result.Result.{Result}
use Rattle.laws.specs.Out.{given, refused, ◌>>◌}
use Rattle.rules.specs.Refusal as why
use Rattle.rules.specs.Refusal.{Placed, twins_after}
use Rattle.rules.specs.Table.{kinds_of, rows_of}
use Rattle.rules.specs.Lookup as lone
use Rattle.error.specs.Shown.{shown}
use Rattle.error.specs.declared.cause.Error.{Error}
use Rattle.error.specs.declared.fault.Fault.{Fault}
use Rattle.fitting.specs.Shown.{room_listed}
use Rattle.registry.specs.Shown.{looked}
use Rattle.lookup.specs.Shown.{placed, at_start, name_of, twins_of, lent, lent_combine, lent_power, indexed_combine, indexed_power, power_by}
use Rattle.lookup.proofs.NamedTwins.{Names, placed_names, combined_names, powered_names, lent_after}

-- ---- two tests and a rule, grouped either way; placed together or each by itself
after : {A : Type 0} (m n : why.Answer (Unit {0})) (q : why.Answer A) → (m >> n) >> q ≡ m >> (n >> q)
after (given u) n q = refl
after (refused x) n q = refl

apart : {A : Type 0} (m : why.Answer (Unit {0})) (q : why.Answer A) → why.at 0 (m >> q) ≡ why.at 0 m >> why.at 0 q
apart (given u) q = refl
apart (refused x) q = refl

pub after_placed : {A : Type 0} (m n : why.Answer (Unit {0})) (q : Placed A) → why.at 0 (m >> n) >> q ≡ why.at 0 m >> (why.at 0 n >> q)
after_placed (given u) n q = refl
after_placed (refused x) n q = refl

-- ---- the place
start : (m : why.Answer ℕ) → at_start (looked m) ≡ placed (why.at 0 m)
unfolding at_start looked placed
start (given k) = refl
start (refused x) = refl

-- ---- what is looked up is m, after 5 and 40
module _ (t rows old : List ℕ) (m : why.Answer ℕ) where
  pub lists : Names (kinds_of t) m → {new : List ℕ} → new ≡ room_listed (twins_of (kinds_of t) (name_of (at_start (looked (lent t rows old >> m))))) old → new ≡ twins_after (why.at 0 (lent t rows old >> m)) old
  unfolding placed
  lists n {new} e =
      let z : at_start (looked (lent t rows old >> m)) ≡ shown (λ k. k) (why.at 0 (lent t rows old) >> why.at 0 m) = start (lent t rows old >> m) ∙ ap placed (apart (lent t rows old) m) in
      let f : new ≡ room_listed (twins_of (kinds_of t) (name_of (shown (λ (k : ℕ). k) (why.at 0 (lent t rows old) >> why.at 0 m)))) old = e ∙ ap (λ (v : Result ℕ Fault). room_listed (twins_of (kinds_of t) (name_of v)) old) z in
      lent_after (λ (k : ℕ). k) (kinds_of t) old t rows (why.at 0 m) (placed_names (kinds_of t) m n) f ∙ ap (λ (q : Placed ℕ). twins_after q old) (sym (apart (lent t rows old) m))

-- ---- v is what was looked up, w what is handed back
module _ (t rows old : List ℕ) (code l r : ℕ) {v : Result ℕ Error} (e : v ≡ looked (lent_combine t rows old code l r)) where
  combine_is : why.at 0 (lent_combine t rows old code l r) ≡ lone.combine t rows old code l r
  unfolding lent_combine lent lone.combine indexed_combine
  combine_is = ap (why.at 0) (after (lone.roomy t old) (lone.tabled t rows) (indexed_combine (kinds_of t) (rows_of rows) code l r))

  pub combine_value : {w : Result ℕ Fault} → w ≡ at_start v → w ≡ placed (lone.combine t rows old code l r)
  combine_value h = h ∙ ap at_start e ∙ start (lent_combine t rows old code l r) ∙ ap placed combine_is

  pub combine_list : {new : List ℕ} → new ≡ room_listed (twins_of (kinds_of t) (name_of (at_start v))) old → new ≡ twins_after (lone.combine t rows old code l r) old
  unfolding lent_combine
  combine_list h =
      lists t rows old (indexed_combine (kinds_of t) (rows_of rows) code l r) (combined_names (kinds_of t) (rows_of rows) code l r) (h ∙ ap (λ (q : Result ℕ Error). room_listed (twins_of (kinds_of t) (name_of (at_start q))) old) e)
      ∙ ap (λ (q : Placed ℕ). twins_after q old) combine_is

module _ (t old : List ℕ) (k : ℕ) (x : lone.Exponent) {v : Result ℕ Error} (e : v ≡ looked (lent_power t old k x)) where
  power_is : why.at 0 (lent_power t old k x) ≡ lone.power t old k x
  unfolding lent_power lent lone.power power_by indexed_power
  power_is = ap (why.at 0) (after (lone.roomy t old) (lone.tabled t []) (power_by (kinds_of t) k x))

  pub power_value : {w : Result ℕ Fault} → w ≡ at_start v → w ≡ placed (lone.power t old k x)
  power_value h = h ∙ ap at_start e ∙ start (lent_power t old k x) ∙ ap placed power_is

  pub power_list : {new : List ℕ} → new ≡ room_listed (twins_of (kinds_of t) (name_of (at_start v))) old → new ≡ twins_after (lone.power t old k x) old
  unfolding lent_power
  power_list h =
      lists t [] old (power_by (kinds_of t) k x) (powered_names (kinds_of t) k x) (h ∙ ap (λ (q : Result ℕ Error). room_listed (twins_of (kinds_of t) (name_of (at_start q))) old) e)
      ∙ ap (λ (q : Placed ℕ). twins_after q old) power_is

pub ruleset wholes = (combine_value, combine_list, power_value, power_list)
