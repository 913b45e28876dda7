-- Laws of the product lookup that code over it wants, for any kinds and rows. Assumes nothing.
use Prim.Native.Nat.{ℕ, ◌<◌, ◌≤◌}
use mathlib.Core.Path.{◌≡◌, refl, sym, ◌∙◌, ap}
use mathlib.Core.Bool.{Bool, true, false, cond, true≢false}
use mathlib.Core.List.{List, [], ◌∷◌}
use Rattle.std.specs.declared.option.Option.{Option}
use Rattle.std.specs.declared.option.Option.TheVariants.{None, Some}
use native.Mathlib.Omega.{arith}
use lib.Dec.{eqb}
use lib.ListN.{length, get_or}
use Rattle.laws.specs.Options.{or_else}
use Rattle.laws.specs.Out.{given, refused, known}
use Rattle.laws.proofs.Checks.{bind_given}
use Rattle.dimension.specs.declared.grade.ProductOp.{ProductOp}
use Rattle.dimension.specs.declared.grade.ProductOp.TheVariants.{Mul, Div, Dot, Wedge}
use Rattle.rules.specs.Kinds.{Kinds, Rows, Graded, duration, carries, fits, candidates}
use Rattle.rules.specs.Refusal.{Answer, UnresolvedTwin, NoProductKind, InvalidOperationRule}
use Rattle.rules.specs.Arithmetic.{derive, neutral_by, neutral, rated_by, rated, or_fitting, resolve, settle, product}
use Rattle.rules.specs.Catalog.{Catalog}
use Rattle.rules.specs.Compile.{several}
use Rattle.guarantees.proofs.Picks.{Ascending, distinct, picked_ascending, head_passes, none_passes}
use Rattle.guarantees.proofs.Carried.{carries_tells, tells_fits}
use Rattle.guarantees.proofs.Calm.{Calm, derive_calm}
use Rattle.guarantees.proofs.IsTwin.{every, not_twins}

-- ---- "The answer reads, of all rows, only that of this very left, operation and right."
pub product_reads : (K : Kinds) (rows other : Rows) (l : ℕ) (op : ProductOp) (r : ℕ) → rows l op r ≡ other l op r → product K rows l op r ≡ product K other l op r
unfolding product
product_reads K rows other l op r e = rw e

-- ---- a product's answer is a kind in range
-- every kind that another, a row or the header names is one of K's
pub record Within (K : Kinds) (rows : Rows) : Type 0 where
  pub difference : (k d : ℕ) → K.difference k ≡ Some d → d < K.count
  pub rate_of : (k t : ℕ) → K.rate_of k ≡ Some t → t < K.count
  pub rate : (t k : ℕ) → K.rate t ≡ Some k → k < K.count
  pub dimensionless : (o : ℕ) → K.dimensionless ≡ Some o → o < K.count
  pub row : (l : ℕ) (op : ProductOp) (r k : ℕ) → rows l op r ≡ Some k → k < K.count

module _ (K : Kinds) (rows : Rows) (w : Within K rows) (l r k : ℕ) (hl : l < K.count) (hr : r < K.count) where
  never : None ≡ Some k → k < K.count
  never e = let z : true ≡ false = cc in absurd (true≢false z)

  -- one of two, or none
  chosen : (s t : Bool) (a b : Option ℕ) → (a ≡ Some k → k < K.count) → (b ≡ Some k → k < K.count) → cond s a (cond t b None) ≡ Some k → k < K.count
  chosen true t a b f g e = f e
  chosen false true a b f g e = g e
  chosen false false a b f g e = never e

  itself : (m : ℕ) → m < K.count → Some m ≡ Some k → k < K.count
  itself m h e = let z : m ≡ k = cc in rw (← z) h

  neutral_below : (op : ProductOp) (o : ℕ) → K.dimensionless ≡ Some o → neutral_by op o l r ≡ Some k → k < K.count
  unfolding neutral_by
  neutral_below Mul o p e = chosen (eqb r o) (eqb l o) (Some l) (Some r) (itself l hl) (itself r hr) e
  neutral_below Div o p e = chosen (eqb r o) (eqb l r) (Some l) (Some o) (itself l hl) (itself o (w.dimensionless o p)) e
  neutral_below Dot o p e = never e
  neutral_below Wedge o p e = never e

  rated_below : (op : ProductOp) (d : ℕ) → rated_by K op d l r ≡ Some k → k < K.count
  unfolding rated_by
  rated_below Mul d e = chosen (eqb r d) (eqb l d) (K.rate_of l) (K.rate_of r) (w.rate_of l k) (w.rate_of r k) e
  rated_below Div d e = chosen (eqb r d) false (K.rate l) None (w.rate l k) never e
  rated_below Dot d e = never e
  rated_below Wedge d e = never e

  neutral_in : (op : ProductOp) → neutral K l op r ≡ Some k → k < K.count
  unfolding neutral
  neutral_in op e = go K.dimensionless refl
    where
      go : (o : Option ℕ) → K.dimensionless ≡ o → k < K.count
      go None p = never (rw p at e)
      go (Some o) p = neutral_below op o p (rw p at e)

  rated_in : (op : ProductOp) → rated K l op r ≡ Some k → k < K.count
  unfolding rated
  rated_in op e = go (duration K) refl
    where
      go : (o : Option ℕ) → duration K ≡ o → k < K.count
      go None p = never (rw p at e)
      go (Some d) p = rated_below op d (rw p at e)

  resolve_in : (op : ProductOp) (x : Graded) → resolve K l op r x ≡ k ∷ [] → k < K.count
  unfolding resolve
  resolve_in op x e = go (neutral K l op r) refl (rated K l op r) refl (candidates K x) refl
    where
      go : (n : Option ℕ) → neutral K l op r ≡ n → (t : Option ℕ) → rated K l op r ≡ t → (ks : List ℕ) → candidates K x ≡ ks → k < K.count
      go (Some m) p t q ks u = let y : m ≡ k = cc in neutral_in op (p ∙ ap Some y)
      go None p (Some m) q ks u = let y : m ≡ k = cc in rated_in op (q ∙ ap Some y)
      go None p None q [] u = let y : true ≡ false = cc in absurd (true≢false y)
      go None p None q (m ∷ []) u = let y : m ≡ k = cc in (head_passes (fits K x) K.count k [] (u ∙ ap (λ (j : ℕ). j ∷ []) y)).1
      go None p None q (m ∷ n ∷ ks) u = let y : true ≡ false = cc in absurd (true≢false y)

  pub product_in : (op : ProductOp) → product K rows l op r ≡ given k → k < K.count
  unfolding product
  product_in op e =
      let b = bind_given (derive K l op r) _ e in
      go b.0 (resolve K l op r b.0) refl (rows l op r) refl b.2
    where
      go : (x : Graded) (o : List ℕ) → resolve K l op r x ≡ o → (v : Option ℕ) → rows l op r ≡ v
          → settle (resolve K l op r x) (refused (NoProductKind x)) given (λ ks. known (rows l op r) (refused (UnresolvedTwin l op r ks))) ≡ given k → k < K.count
      go x (m ∷ []) p v q e = let y : m ≡ k = cc in resolve_in op x (p ∙ ap (λ (j : ℕ). j ∷ []) y)
      go x (m ∷ n ∷ ks) p (Some j) q e = let y : j ≡ k = cc in w.row l op r k (q ∙ ap Some y)
      go x (m ∷ n ∷ ks) p None q e = let y : true ≡ false = cc in absurd (true≢false y)
      go x [] p v q e = let y : true ≡ false = cc in absurd (true≢false y)

-- ---- the twins are the kinds that fit, two at least
module _ (K : Kinds) (l : ℕ) (op : ProductOp) (r : ℕ) where
  pub resolve_twins : (x : Graded) → 2 ≤ length (resolve K l op r x) → resolve K l op r x ≡ candidates K x
  unfolding resolve
  resolve_twins x e = go (or_else (neutral K l op r) (rated K l op r)) e
    where
      go : (o : Option ℕ) → 2 ≤ length (or_fitting K o x) → or_fitting K o x ≡ candidates K x
      go (Some m) h = absurd (omega arith)
      go None h = refl

  pub product_twins : (rows : Rows) (a : ℕ) (o : ProductOp) (b : ℕ) (ks : List ℕ) → product K rows l op r ≡ refused (UnresolvedTwin a o b ks)
      → (x : Graded) × (derive K l op r ≡ given x) × (ks ≡ candidates K x) × (2 ≤ length ks)
  unfolding product
  product_twins rows a o b ks e = go (derive K l op r) refl (derive_calm every K l op r)
    where
      at : (x : Graded) → derive K l op r ≡ given x → (u : List ℕ) → resolve K l op r x ≡ u → (v : Option ℕ) → rows l op r ≡ v
          → (x : Graded) × (derive K l op r ≡ given x) × (ks ≡ candidates K x) × (2 ≤ length ks)
      at x d (k ∷ []) p v q = let z : true ≡ false = cc in absurd (true≢false z)
      at x d [] p v q = let z : true ≡ false = cc in absurd (true≢false z)
      at x d (m ∷ j ∷ js) p (Some k) q = let z : true ≡ false = cc in absurd (true≢false z)
      at x d (m ∷ j ∷ js) p None q =
          let z : resolve K l op r x ≡ ks = cc in
          let h : 2 ≤ length ks = rw (sym z ∙ p) (omega arith) in
          (x, d, sym z ∙ resolve_twins x (rw z h), h)

      go : (m : Answer Graded) → derive K l op r ≡ m → Calm every m → (x : Graded) × (derive K l op r ≡ given x) × (ks ≡ candidates K x) × (2 ≤ length ks)
      go (given x) d c = at x d (resolve K l op r x) refl (rows l op r) refl
      go (refused y) d c = let z : ◌≡◌ {A = Answer ℕ} (refused y) (refused (UnresolvedTwin a o b ks)) = cc in absurd (true≢false (not_twins {A = ℕ} (refused y) a o b ks c z))

  -- so they ascend, are distinct, and fit
  pub twins_ascend : (rows : Rows) (a : ℕ) (o : ProductOp) (b : ℕ) (ks : List ℕ) → product K rows l op r ≡ refused (UnresolvedTwin a o b ks) → Ascending ks
  twins_ascend rows a o b ks e = let t = product_twins rows a o b ks e in rw t.2 (picked_ascending (fits K t.0) K.count)

  pub twins_distinct : (rows : Rows) (a : ℕ) (o : ProductOp) (b : ℕ) (ks : List ℕ) → product K rows l op r ≡ refused (UnresolvedTwin a o b ks)
      → (i j : ℕ) → i < length ks → j < length ks → get_or ks i 0 ≡ get_or ks j 0 → i ≡ j
  twins_distinct rows a o b ks e = distinct ks (twins_ascend rows a o b ks e)

-- ---- "25 never comes from a lack of kinds: a result that fits is itself found"
module _ (K : Kinds) (l : ℕ) (op : ProductOp) (r : ℕ) (x : Graded) (k : ℕ) (b : k < K.count) (n : K.difference k ≡ None) (c : carries K x k ≡ true) where
  pub result_found : resolve K l op r x ≡ [] → ⊥
  unfolding resolve
  result_found e = go (neutral K l op r) refl (rated K l op r) refl (candidates K x) refl
    where
      go : (o : Option ℕ) → neutral K l op r ≡ o → (t : Option ℕ) → rated K l op r ≡ t → (ks : List ℕ) → candidates K x ≡ ks → ⊥
      go (Some m) p t q ks u = let z : true ≡ false = cc in true≢false z
      go None p (Some m) q ks u = let z : true ≡ false = cc in true≢false z
      go None p None q [] u = true≢false (sym (tells_fits K x k (carries_tells K x k c) n) ∙ none_passes (fits K x) K.count k u b)
      go None p None q (m ∷ []) u = let z : true ≡ false = cc in true≢false z
      go None p None q (m ∷ j ∷ ks) u = let z : true ≡ false = cc in true≢false z

  pub never_25 : (C : Catalog) (y : Graded) → several C (resolve K l op r x) x ≡ refused (InvalidOperationRule y) → ⊥
  never_25 C y e = go (resolve K l op r x) refl
    where
      go : (o : List ℕ) → resolve K l op r x ≡ o → ⊥
      go (m ∷ []) p = let z : true ≡ false = cc in true≢false z
      go (m ∷ j ∷ ks) p = let z : true ≡ false = cc in true≢false z
      go [] p = result_found p
