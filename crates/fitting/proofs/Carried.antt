-- Whether a kind carries dimensions d at grade g: from what the code's tests said in turn (`carried`). d are those that the
-- words of a list stand for. Assumes nothing.
use Prim.Native.Nat.{ℕ}
use mathlib.Core.Path.{◌≡◌}
use mathlib.Core.Bool.{Bool, true, false, not, and-false}
use mathlib.Core.List.{List}
use borrow.Author.Tests.{eq-eqb, ne_eqb, not-true, not-false}
use Rattle.laws.specs.Options.{is_some}
use Rattle.dimension.specs.Dimension as D
use Rattle.dimension.specs.declared.dimensions.Dimensions.{Dimensions}
use Rattle.rules.specs.Kinds.{carries}
use Rattle.rules.specs.Table.{kinds_of, kind_place, dims_from}
use Rattle.table.proofs.Fields.{resolved_is, unresolved_is}
use Rattle.fitting.specs.Shown.{at}

module _ (t : List ℕ) (d : Dimensions) (g k : ℕ) where
  pub carries_grade : {v : ℕ} → v ≡ (kinds_of t).grade k → (v ≡ g → ⊥) → false ≡ carries (kinds_of t) (at d g) k
  unfolding carries
  carries_grade {v} e f = rw (← e, ne_eqb v g f)

  module _ {v : ℕ} {b : Bool} (e : v ≡ (kinds_of t).grade k) (f : v ≡ g) (p : b ≡ is_some ((kinds_of t).dims k)) where
    pub carries_unresolved : not b ≡ true → false ≡ carries (kinds_of t) (at d g) k
    unfolding carries
    carries_unresolved q = rw (unresolved_is t k p (not-true b q), and-false)

    pub carries_dims : {u : Bool} → not b ≡ false → u ≡ D.equal (dims_from t (kind_place k)) d → u ≡ carries (kinds_of t) (at d g) k
    unfolding carries
    carries_dims q h = rw (← e, eq-eqb v g f, resolved_is t k p (not-false b q)) h

pub ruleset carried = (carries_grade, carries_unresolved, carries_dims)
