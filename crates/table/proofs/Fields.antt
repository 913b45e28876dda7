-- The words of a kind, read under the count: past it a field is 0, and names no kind (`fields`). And what is known of a kind's dimensions once
-- they were asked for. Assumes nothing.
use Prim.Native.Nat.{ℕ, ◌+◌, ◌<◌, ◌≤◌, min}
use mathlib.Core.Path.{◌≡◌, refl, sym, ◌∙◌}
use mathlib.Core.Bool.{Bool, true, false, cond}
use mathlib.Core.List.{List}
use Rattle.std.specs.declared.option.Option.{Option}
use Rattle.std.specs.declared.option.Option.TheVariants.{None, Some}
use lib.Dec.{ltb, eqb}
use borrow.Author.Tests.{lt-ltb, le-ltb}
use Rattle.std.proofs.Math.Nat.{min_comm}
use Rattle.laws.specs.Options.{found, is_some}
use Rattle.laws.specs.Ranges.{below}
use Rattle.dimension.specs.Dimension as D
use Rattle.dimension.specs.declared.dimensions.Dimensions.{Dimensions}
use Rattle.rules.specs.Table.{kinds_of, kinds_in, kind_place, word, index_or, dims_from}
use Rattle.table.specs.Shown.{field, link}

-- ---- the count: n is the smaller of two, named the other way round
pub count_is : (t : List ℕ) {n : ℕ} → n ≡ min (word t 0) 240 → n ≡ (kinds_of t).count
unfolding kinds_of
count_is t e = e ∙ min_comm (word t 0) 240

-- ---- word f of kind k, where m is the count
module _ (t : List ℕ) (k f : ℕ) {m : ℕ} where
  pub field_in : {v : ℕ} → m ≡ (kinds_of t).count → k < m → v ≡ word t (kind_place k + f) → v ≡ field t k f
  unfolding kinds_of below field
  field_in e h q = rw (← e, lt-ltb k m h) q

  pub field_past : m ≡ (kinds_of t).count → m ≤ k → 0 ≡ field t k f
  unfolding kinds_of below field
  field_past e h = rw (← e, le-ltb k m h)

  -- the kind that it names
  pub link_in : {u : Option ℕ} → m ≡ (kinds_of t).count → k < m → u ≡ index_or (word t (kind_place k + f)) → u ≡ link t k f
  unfolding kinds_of below link
  link_in e h q = rw (← e, lt-ltb k m h) q

  pub link_past : m ≡ (kinds_of t).count → m ≤ k → None ≡ link t k f
  unfolding kinds_of below link
  link_past e h = rw (← e, le-ltb k m h)

-- ---- what a field v says
some_if : {A : Type 0} (b : Bool) (a : A) → b ≡ is_some (cond b (Some a) None)
some_if true a = refl
some_if false a = refl

either_dims : (b : Bool) (w : ℕ) (d : Dimensions) → eqb (cond b w 0) 1 ≡ is_some (cond b (cond (eqb w 1) (Some d) None) None)
either_dims true w d = some_if (eqb w 1) d
either_dims false w d = refl

module _ (t : List ℕ) (k : ℕ) {v : ℕ} where
  pub resolved_field : v ≡ field t k 24 → eqb v 1 ≡ is_some ((kinds_of t).dims k)
  unfolding kinds_of below field
  resolved_field e = rw e (either_dims (ltb k (kinds_in t)) (word t (kind_place k + 24)) (dims_from t (kind_place k)))

  pub grade_field : v ≡ field t k 25 → v ≡ (kinds_of t).grade k
  unfolding kinds_of below field
  grade_field e = e

-- ---- dimensions: b is whether they are given
module _ (t : List ℕ) (k : ℕ) {b : Bool} where
  -- given ones are those that the kind's words stand for
  pub resolved_is : b ≡ is_some ((kinds_of t).dims k) → b ≡ true → (kinds_of t).dims k ≡ Some (dims_from t (kind_place k))
  unfolding kinds_of below
  resolved_is e p = go (ltb k (kinds_in t)) (eqb (word t (kind_place k + 24)) 1) (sym e ∙ p)
    where
      go : (x y : Bool) → is_some (cond x (cond y (Some (dims_from t (kind_place k))) None) None) ≡ true → cond x (cond y (Some (dims_from t (kind_place k))) None) None ≡ Some (dims_from t (kind_place k))
      go true true h = refl
      go true false h = cc
      go false y h = cc

  pub unresolved_is : b ≡ is_some ((kinds_of t).dims k) → b ≡ false → (kinds_of t).dims k ≡ None
  unresolved_is e p = go ((kinds_of t).dims k) (sym e ∙ p)
    where
      go : (o : Option Dimensions) → is_some o ≡ false → o ≡ None
      go (Some d) h = cc
      go None h = refl

module _ (t : List ℕ) (k : ℕ) {b : Bool} {v : Dimensions} where
  pub resolved : b ≡ is_some ((kinds_of t).dims k) → b ≡ true → v ≡ dims_from t (kind_place k) → v ≡ found ((kinds_of t).dims k) (λ d. d) D.one
  resolved e p q = rw (resolved_is t k e p) q

  pub unresolved : b ≡ is_some ((kinds_of t).dims k) → b ≡ false → v ≡ D.one → v ≡ found ((kinds_of t).dims k) (λ d. d) D.one
  unresolved e p q = rw (unresolved_is t k e p) q

pub ruleset fields = (
  count_is,
  field_in,
  field_past,
  link_in,
  link_past,
  resolved_field,
  grade_field,
  resolved,
  unresolved,
)

-- a crate above that has asked whether they are given
pub ruleset dims_known = (resolved_is, unresolved_is)
