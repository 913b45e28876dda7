-- 45, for any kinds and rows: a product that is derived gets "no product kind" exactly where nothing is known of it (neutral or rate) and no kind
-- fits. Assumes nothing.
use Prim.Native.Nat.{ℕ}
use mathlib.Core.Path.{◌≡◌, refl}
use mathlib.Core.Bool.{true, false, true≢false}
use mathlib.Core.List.{List, [], ◌∷◌}
use Rattle.std.specs.declared.option.Option.{Option}
use Rattle.std.specs.declared.option.Option.TheVariants.{None, Some}
use Rattle.laws.specs.Options.{or_else}
use Rattle.laws.specs.Out.{given, refused}
use Rattle.dimension.specs.declared.grade.ProductOp.{ProductOp}
use Rattle.rules.specs.Kinds.{Kinds, Rows, Graded, candidates}
use Rattle.rules.specs.Refusal.{Answer, NoProductKind, UnresolvedTwin}
use Rattle.rules.specs.Arithmetic.{derive, neutral, rated, resolve, product}

module _ (K : Kinds) (rows : Rows) (l : ℕ) (op : ProductOp) (r : ℕ) (x : Graded) (e : derive K l op r ≡ given x) where
  pub no_kind : or_else (neutral K l op r) (rated K l op r) ≡ None → candidates K x ≡ [] → product K rows l op r ≡ refused (NoProductKind x)
  unfolding product resolve
  no_kind p q = rw (e, p, q)

  pub no_kind_told : (y : Graded) → product K rows l op r ≡ refused (NoProductKind y) → (or_else (neutral K l op r) (rated K l op r) ≡ None) × (candidates K x ≡ [])
  unfolding product resolve
  no_kind_told y h = go (or_else (neutral K l op r) (rated K l op r)) refl (candidates K x) refl (rows l op r) refl
    where
      go : (o : Option ℕ) → or_else (neutral K l op r) (rated K l op r) ≡ o → (ks : List ℕ) → candidates K x ≡ ks → (w : Option ℕ) → rows l op r ≡ w
          → (or_else (neutral K l op r) (rated K l op r) ≡ None) × (candidates K x ≡ [])
      go None p [] q w u = (p, q)
      go (Some k) p ks q w u =
          let z : ◌≡◌ {A = Answer ℕ} (given k) (refused (NoProductKind y)) = rw (e, p) at h in
          let t : true ≡ false = cc in
          absurd (true≢false t)
      go None p (k ∷ []) q w u =
          let z : ◌≡◌ {A = Answer ℕ} (given k) (refused (NoProductKind y)) = rw (e, p, q) at h in
          let t : true ≡ false = cc in
          absurd (true≢false t)
      go None p (k ∷ m ∷ ks) q (Some j) u =
          let z : ◌≡◌ {A = Answer ℕ} (given j) (refused (NoProductKind y)) = rw (e, p, q, u) at h in
          let t : true ≡ false = cc in
          absurd (true≢false t)
      go None p (k ∷ m ∷ ks) q None u =
          let z : ◌≡◌ {A = Answer ℕ} (refused (UnresolvedTwin l op r (k ∷ m ∷ ks))) (refused (NoProductKind y)) = rw (e, p, q, u) at h in
          let t : true ≡ false = cc in
          absurd (true≢false t)
