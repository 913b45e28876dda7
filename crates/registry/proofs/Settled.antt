-- A product's answer: one law a return. Assumes nothing.
use Prim.Native.Nat.{ℕ}
use Rattle.std.specs.declared.result.Result.{Result}
use Rattle.std.specs.declared.result.Result.TheVariants.{Ok, Err}
use mathlib.Core.Path.{◌≡◌, refl, sym, ◌∙◌, ap}
use mathlib.Core.Bool.{true, false, true≢false}
use Rattle.std.specs.declared.option.Option.{Option}
use Rattle.std.specs.declared.option.Option.TheVariants.{None, Some}
use Rattle.laws.specs.Options.{found, or_else}
use Rattle.laws.specs.Out.{given, refused, known}
use Rattle.dimension.specs.declared.dimensions.Dimensions.{Dimensions}
use Rattle.dimension.specs.declared.grade.ProductOp.{ProductOp}
use Rattle.rules.specs.Kinds.{Kinds, Rows, Graded, candidates}
use Rattle.rules.specs.Refusal as why
use Rattle.rules.specs.Refusal.{told, code_of}
use Rattle.rules.specs.Arithmetic as rule
use Rattle.table.proofs.Links.{to_some, nowhere_none}
use Rattle.error.specs.Shown.{error_of}
use Rattle.error.specs.declared.cause.Error.{Error}
use Rattle.error.specs.declared.cause.Error.TheVariants as cause
use Rattle.fitting.specs.Shown.{at, fit_of, twins_from}
use Rattle.fitting.specs.declared.sought.Fit.{Fit}
use Rattle.fitting.specs.declared.sought.Fit.TheVariants.{Only, Second, Nothing}
use Rattle.fitting.proofs.Twins.{only_fits, second_fits, nothing_fits, settle_several, twins_counted}
use Rattle.derive.specs.Shown.{ruled_as}
use Rattle.derive.proofs.Derives.{of_told}
use Rattle.registry.specs.Shown.{looked, joined_as, fitted_as, settled_as}

-- ---- several kinds fit: the row's, or 44
module _ (o : Option ℕ) {u : Option ℕ} where
  pub row_names : {v : Result ℕ Error} → {k : ℕ} (x : Result ℕ Error) → u ≡ Some k → u ≡ o → v ≡ Ok k → v ≡ found o Ok x
  row_names x p e h = rw (to_some o p e) h

  pub row_missing : {v : Result ℕ Error} → (l : ℕ) (op : ProductOp) (r n : ℕ) {c m : ℕ} → u ≡ None → u ≡ o → c ≡ code_of op → m ≡ n → v ≡ Err (cause.UnresolvedTwin l c r m) → v ≡ found o Ok (Err (cause.UnresolvedTwin l (code_of op) r n))
  row_missing l op r n p e f s h = rw (nowhere_none o p e, ← s, ← f) h

-- the rows' kind, or twins
looked_known : (o : Option ℕ) (x : why.Refusal) → found o Ok (Err (error_of x)) ≡ looked (known o (refused x))
unfolding looked
looked_known (Some k) x = refl
looked_known None x = refl

module _ (K : Kinds) (R : Rows) (l : ℕ) (op : ProductOp) (r : ℕ) where
  module _ (g : ℕ) where
    -- ---- from the kinds that fit: d is what the words stand for, v what was found
    module _ {d : Dimensions} (q : d ≡ (joined_as K l op r g).dims) {v : Fit} (e : v ≡ fit_of (candidates K (at d g))) where
      pub fitted_only : {k : ℕ} → v ≡ Only k → Ok k ≡ looked (fitted_as K R l op r (joined_as K l op r g))
      unfolding looked
      fitted_only p = rw (← q, only_fits (candidates K (at d g)) p e)

      pub fitted_several : {a : Result ℕ Error} {m : ℕ} → v ≡ Second m → a ≡ found (R l op r) Ok (Err (cause.UnresolvedTwin l (code_of op) r (twins_from K (at d g) m))) → a ≡ looked (fitted_as K R l op r (joined_as K l op r g))
      fitted_several {a} {m} p h =
          h ∙ ap (λ (n : ℕ). found (R l op r) Ok (Err (cause.UnresolvedTwin l (code_of op) r n))) (twins_counted K (at d g) p e)
          ∙ looked_known (R l op r) (why.UnresolvedTwin l op r (candidates K (at d g)))
          ∙ ap looked (rw (← q) (sym (settle_several (candidates K (at d g)) _ given _ (second_fits (candidates K (at d g)) p e))))

      pub fitted_none : {y : Dimensions} → v ≡ Nothing → y ≡ d → Err (cause.NoProductKind y g) ≡ looked (fitted_as K R l op r (joined_as K l op r g))
      unfolding looked
      fitted_none p s = rw (← q, nothing_fits (candidates K (at d g)) p e, ← s)

    -- ---- u is what is known
    module _ {u : Option ℕ} (e : u ≡ or_else (rule.neutral K l op r) (rule.rated K l op r)) where
      pub settled_known : {k : ℕ} → u ≡ Some k → Ok k ≡ looked (settled_as K R l op r (joined_as K l op r g))
      unfolding looked rule.resolve
      settled_known p = rw (to_some (or_else (rule.neutral K l op r) (rule.rated K l op r)) p e)

      pub settled_fitted : {a : Result ℕ Error} → u ≡ None → a ≡ looked (fitted_as K R l op r (joined_as K l op r g)) → a ≡ looked (settled_as K R l op r (joined_as K l op r g))
      unfolding rule.resolve
      settled_fitted p h = rw (nowhere_none (or_else (rule.neutral K l op r) (rule.rated K l op r)) p e) h

  -- ---- what was ruled of the grade
  pub product_graded : {a : Result ℕ Error} → {g : ℕ} → Ok g ≡ ruled_as (rule.derive K l op r) → a ≡ looked (settled_as K R l op r (joined_as K l op r g)) → a ≡ looked (rule.product K R l op r)
  unfolding rule.product
  product_graded e h = rw (of_told K l op r e refl) h

pub product_refused : (K : Kinds) (R : Rows) (l : ℕ) (op : ProductOp) (r : ℕ) {y : Error} → Err y ≡ ruled_as (rule.derive K l op r) → Err y ≡ looked (rule.product K R l op r)
unfolding looked rule.product
product_refused K R l op r {y} e = go (rule.derive K l op r) refl
  where
    go : (m : why.Answer Graded) → rule.derive K l op r ≡ m → Err y ≡ looked (rule.product K R l op r)
    go (given x) s =
        let z : Err y ≡ Ok x.grade = e ∙ ap ruled_as s in
        let b : true ≡ false = cc in
        absurd (true≢false b)
    go (refused x) s =
        let z : Err y ≡ Err (error_of x) = e ∙ ap ruled_as s in
        let b : y ≡ error_of x = cc in
        rw s (ap Err b)

pub ruleset rowed = (row_names, row_missing)

pub ruleset settlements = (fitted_only, fitted_several, fitted_none, settled_known, settled_fitted, product_graded, product_refused)
