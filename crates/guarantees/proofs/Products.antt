-- Every kind that a product gives carries what is derived, and 45 is said exactly where no kind does, points left out. Assumes nothing.
use Prim.Native.Nat.{ℕ, ◌<◌}
use mathlib.Core.Path.{◌≡◌, refl, sym, ◌∙◌, ap}
use mathlib.Core.Bool.{Bool, true, false, true≢false}
use mathlib.Core.List.{List, [], ◌∷◌}
use mathlib.Core.Logic.{◌↔◌}
use Rattle.std.specs.declared.option.Option.{Option}
use Rattle.std.specs.declared.option.Option.TheVariants.{None, Some}
use Rattle.laws.specs.Out.{given, refused, known}
use Rattle.laws.proofs.Checks.{bind_given}
use Rattle.dimension.specs.declared.dimensions.Dimensions.{Dimensions}
use Rattle.dimension.specs.declared.grade.ProductOp.{ProductOp}
use Rattle.rules.specs.Kinds.{Kinds, Rows, Graded, carries, fits, candidates}
use Rattle.rules.specs.Refusal.{Answer, UnresolvedTwin, NoProductKind}
use Rattle.rules.specs.Arithmetic.{derive, neutral, rated, resolve, settle, product}
use Rattle.guarantees.specs.Premises.{Guaranteed, Scalars}
use Rattle.guarantees.specs.Demand3.{NoneCarries, HasProduct, Exactly45}
use Rattle.guarantees.proofs.Picks.{head_passes, none_passes, passes_none}
use Rattle.guarantees.proofs.Carried.{carries_tells, tells_carries, fits_tells, tells_fits}
use Rattle.guarantees.proofs.Derived.{Derived, derive_tells, tells_derive}
use Rattle.guarantees.proofs.Neutral.{Found, neutral_is}
use Rattle.guarantees.proofs.Rated.{rated_is}

module _ (K : Kinds) (rows : Rows) (c : Guaranteed K rows) (s : Scalars K) (l : ℕ) (op : ProductOp) (r : ℕ) (x : Graded) (d : Derived K l op r x) where
  candidate_is : (k : ℕ) (ks : List ℕ) → candidates K x ≡ k ∷ ks → Found K l r x k
  candidate_is k ks e =
      let h = head_passes (fits K x) K.count k ks e in
      let f = fits_tells K x k h.0 in
      record { carries = f.0; no_point = f.1; below = λ a b. h.1 }

  -- what is resolved to is found
  resolve_is : (k : ℕ) → resolve K l op r x ≡ k ∷ [] → Found K l r x k
  unfolding resolve
  resolve_is k e = go (neutral K l op r) refl (rated K l op r) refl (candidates K x) refl
    where
      go : (n : Option ℕ) → neutral K l op r ≡ n → (t : Option ℕ) → rated K l op r ≡ t → (ks : List ℕ) → candidates K x ≡ ks → Found K l r x k
      go (Some m) p t q ks u = let y : m ≡ k = cc in neutral_is K rows c s l r x op k d (p ∙ ap Some y)
      go None p (Some m) q ks u = let y : m ≡ k = cc in rated_is K rows c s l r x op k d (q ∙ ap Some y)
      go None p None q [] u = let y : true ≡ false = cc in absurd (true≢false y)
      go None p None q (m ∷ []) u = let y : m ≡ k = cc in candidate_is k [] (u ∙ ap (λ (j : ℕ). j ∷ []) y)
      go None p None q (m ∷ n ∷ ks) u = let y : true ≡ false = cc in absurd (true≢false y)

  -- what follows the derivation
  abbrev rest : Answer ℕ
  rest = settle (resolve K l op r x) (refused (NoProductKind x)) given (λ ks. known (rows l op r) (refused (UnresolvedTwin l op r ks)))

  rest_found : (k : ℕ) → derive K l op r ≡ given x → rest ≡ given k → Found K l r x k
  rest_found k v e = go (resolve K l op r x) refl (rows l op r) refl
    where
      go : (o : List ℕ) → resolve K l op r x ≡ o → (w : Option ℕ) → rows l op r ≡ w → Found K l r x k
      go (m ∷ []) p w q = let y : m ≡ k = cc in resolve_is k (p ∙ ap (λ (j : ℕ). j ∷ []) y)
      go (m ∷ n ∷ ks) p (Some j) q =
          let y : j ≡ k = cc in
          let i = c.row l op r k (q ∙ ap Some y) in
          let z : i.of ≡ x = cc i.derived in
          record { carries = rw z at (carries_tells K i.of k i.carried); no_point = i.no_point; below = λ a b. i.below }
      go (m ∷ n ∷ ks) p None q = let y : true ≡ false = cc in absurd (true≢false y)
      go [] p w q = let y : true ≡ false = cc in absurd (true≢false y)

  -- nothing is resolved exactly where none carries x
  resolve_nothing : l < K.count → r < K.count → (resolve K l op r x ≡ []) ↔ NoneCarries K x
  unfolding resolve
  resolve_nothing hl hr = (λ e k b n y. there e k b n y (neutral K l op r) refl (rated K l op r) refl (candidates K x) refl, λ h. back h (neutral K l op r) refl (rated K l op r) refl)
    where
      there : resolve K l op r x ≡ [] → (k : ℕ) → k < K.count → K.difference k ≡ None → carries K x k ≡ true
          → (n : Option ℕ) → neutral K l op r ≡ n → (t : Option ℕ) → rated K l op r ≡ t → (ks : List ℕ) → candidates K x ≡ ks → ⊥
      there e k b n y (Some m) p t q ks u = let z : true ≡ false = cc in true≢false z
      there e k b n y None p (Some m) q ks u = let z : true ≡ false = cc in true≢false z
      there e k b n y None p None q [] u = true≢false (sym (tells_fits K x k (carries_tells K x k y) n) ∙ none_passes (fits K x) K.count k u b)
      there e k b n y None p None q (m ∷ []) u = let z : true ≡ false = cc in true≢false z
      there e k b n y None p None q (m ∷ j ∷ ks) u = let z : true ≡ false = cc in true≢false z

      misses : NoneCarries K x → (k : ℕ) → k < K.count → (t : Bool) → fits K x k ≡ t → fits K x k ≡ false
      misses h k b true p = let f = fits_tells K x k p in absurd (h k b f.1 (tells_carries K x k f.0))
      misses h k b false p = p

      none_found : NoneCarries K x → (k : ℕ) → Found K l r x k → ⊥
      none_found h k f = h k (f.below hl hr) f.no_point (tells_carries K x k f.carries)

      back : NoneCarries K x → (n : Option ℕ) → neutral K l op r ≡ n → (t : Option ℕ) → rated K l op r ≡ t → resolve K l op r x ≡ []
      back h (Some m) p t q = absurd (none_found h m (neutral_is K rows c s l r x op m d p))
      back h None p (Some m) q = absurd (none_found h m (rated_is K rows c s l r x op m d q))
      back h None p None q = rw (resolve, p, q, passes_none (fits K x) K.count (λ k b. misses h k b (fits K x k) refl))

  -- and 45 is said exactly then
  rest_45 : (y : Graded) → rest ≡ refused (NoProductKind y) → (y ≡ x) × (resolve K l op r x ≡ [])
  rest_45 y e = go (resolve K l op r x) refl (rows l op r) refl e
    where
      go : (o : List ℕ) → resolve K l op r x ≡ o → (w : Option ℕ) → rows l op r ≡ w → rest ≡ refused (NoProductKind y) → (y ≡ x) × (resolve K l op r x ≡ [])
      go (m ∷ []) p w q e = let z : true ≡ false = cc in absurd (true≢false z)
      go (m ∷ n ∷ ks) p (Some j) q e = let z : true ≡ false = cc in absurd (true≢false z)
      go (m ∷ n ∷ ks) p None q e = let z : true ≡ false = cc in absurd (true≢false z)
      go [] p w q e = (cc, p)

  rest_exactly : l < K.count → r < K.count → (NoneCarries K x → rest ≡ refused (NoProductKind x)) × ((y : Graded) → rest ≡ refused (NoProductKind y) → (y ≡ x) × NoneCarries K x)
  rest_exactly hl hr =
      let n = resolve_nothing hl hr in
      (λ h. rw (n.1 h), λ y e. let t = rest_45 y e in (t.0, n.0 t.1))

has_derives : (K : Kinds) (l : ℕ) (op : ProductOp) (r : ℕ) (x : Graded) → HasProduct K l op r x → derive K l op r ≡ given x
has_derives K l op r x h =
    tells_derive K l op r h.left h.right x.grade h.gives_left h.gives_right h.no_points.0 h.no_points.1 h.grade
    ∙ ap (λ (a : Dimensions). given (record { dims = a; grade = x.grade })) (sym h.dims)

module _ (K : Kinds) (rows : Rows) (c : Guaranteed K rows) (s : Scalars K) where
  -- the kind that a product gives
  pub product_found : (l : ℕ) (op : ProductOp) (r k : ℕ) → product K rows l op r ≡ given k → (x : Graded) × Derived K l op r x × Found K l r x k
  unfolding product
  product_found l op r k e =
      let b = bind_given (derive K l op r) _ e in
      let d = derive_tells K l op r b.0 b.1 in
      (b.0, d, rest_found K rows c s l op r b.0 d k b.1 b.2)

  -- "Two non-point kinds whose product has a dimension and grade get "no product kind" exactly when no non-point kind carries both."
  pub exactly_45 : Exactly45 K rows
  unfolding product
  exactly_45 l op r x hl hr h =
      let v : derive K l op r ≡ given x = has_derives K l op r x h in
      rw v (rest_exactly K rows c s l op r x (derive_tells K l op r x v) hl hr)
