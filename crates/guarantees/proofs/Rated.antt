-- The rule of rates gives a kind that carries what is derived, where duration is scalar. Assumes nothing.
use Prim.Native.Nat.{ℕ}
use mathlib.Core.Path.{◌≡◌, refl, sym, ◌∙◌, ap}
use mathlib.Core.Bool.{Bool, true, false, true≢false}
use Rattle.std.specs.declared.option.Option.{Option}
use Rattle.std.specs.declared.option.Option.TheVariants.{None, Some}
use lib.Dec.{eqb}
use borrow.Author.Tests.{eqb-true}
use Rattle.dimension.specs.Dimension as D
use Rattle.dimension.specs.declared.dimensions.Dimensions.{Dimensions}
use Rattle.dimension.specs.declared.grade.ProductOp.{ProductOp}
use Rattle.dimension.specs.declared.grade.ProductOp.TheVariants.{Mul, Div, Dot, Wedge}
use Rattle.dimension.proofs.DimensionLaws as L
use Rattle.rules.specs.Kinds.{Kinds, Rows, Graded, duration}
use Rattle.rules.specs.Arithmetic.{joined, rated_by, rated}
use Rattle.guarantees.specs.Premises.{IsRate, Guaranteed, Scalars}
use Rattle.guarantees.proofs.Missing.{by_scalar, scalar_by, over_scalar}
use Rattle.guarantees.proofs.Carried.{Carries, carries_tells}
use Rattle.guarantees.proofs.Derived.{Derived}
use Rattle.guarantees.proofs.Neutral.{Found, value_is, ruled}

module _ (K : Kinds) (rows : Rows) (c : Guaranteed K rows) (s : Scalars K) (l r : ℕ) (x : Graded) where
  found_rate : (k t : ℕ) → IsRate K k t → Carries K x k → Found K l r x k
  found_rate k t h p = record { carries = p; no_point = h.no_points.0; below = λ a b. h.below.0 }

  found_target : (k t : ℕ) → IsRate K k t → Carries K x t → Found K l r x t
  found_target k t h p = record { carries = p; no_point = h.no_points.1; below = λ a b. h.below.1 }

  -- what the target carries, by the rate's dimensions a and duration's b
  aims : (k t d : ℕ) (f : IsRate K k t) (b : Dimensions) → duration K ≡ Some d → K.dims d ≡ Some b → Carries K (record { dims = D.or_one (D.product f.dims b); grade = K.grade k }) t
  aims k t d f b h p = carries_tells K _ t (f.fits d b h p)

  rated_found : (op : ProductOp) (e k : ℕ) → duration K ≡ Some e → Derived K l op r x → rated_by K op e l r ≡ Some k → Found K l r x k
  unfolding rated_by joined
  rated_found Mul e k h d q = go (eqb r e) refl (eqb l e) refl
    where
      go : (t : Bool) → eqb r e ≡ t → (u : Bool) → eqb l e ≡ u → Found K l r x k
      go true p u v =
          let w : r ≡ e = eqb-true r e p in
          let f = c.rate_of l k cc in
          let z : K.dims e ≡ Some d.right = cc d.has_right in
          let i = aims l k e f d.right h z in
          found_target l k f (record {
            dims = cc (i.dims, f.resolved, d.has_left, d.dims);
            grade = i.grade ∙ by_scalar _ _ _ (c.grade l) (rw w (s.duration e h)) (ruled K Mul _ _ _ d.rule);
          })
      go false p true v =
          let w : l ≡ e = eqb-true l e v in
          let f = c.rate_of r k cc in
          let z : K.dims e ≡ Some d.left = cc d.has_left in
          let i = aims r k e f d.left h z in
          let y = ap D.or_one (L.product_comm d.left d.right (c.declared l _ d.has_left).twelve (c.declared r _ d.has_right).twelve) in
          found_target r k f (record {
            dims = cc (i.dims, f.resolved, d.has_right, d.dims, y);
            grade = i.grade ∙ scalar_by _ _ _ (c.grade r) (rw w (s.duration e h)) (ruled K Mul _ _ _ d.rule);
          })
      go false p false v = let z : true ≡ false = cc in absurd (true≢false z)
  rated_found Div e k h d q = go (eqb r e) refl
    where
      go : (t : Bool) → eqb r e ≡ t → Found K l r x k
      go true p =
          let w : r ≡ e = eqb-true r e p in
          let f = c.rate_of k l (c.rate k l cc) in
          let z : K.dims e ≡ Some d.right = cc d.has_right in
          let i = aims k l e f d.right h z in
          let m = c.declared k _ f.resolved in
          let n = c.declared r _ d.has_right in
          let y : d.left ≡ D.or_one (D.product f.dims d.right) = cc (i.dims, d.has_left) in
          let u = value_is _ f.dims (L.quotient_back f.dims d.right (D.or_one (D.product f.dims d.right)) (L.declared_sound _ m) (L.declared_sound _ n) (L.declared_product f.dims d.right m n)) in
          found_rate k l f (record {
            dims = f.resolved ∙ ap Some (sym (d.dims ∙ ap (λ (a : Dimensions). D.or_one (D.quotient a d.right)) y ∙ u));
            grade = sym i.grade ∙ (over_scalar _ _ _ (c.grade l) (c.grade r) (ruled K Div _ _ _ d.rule)).0;
          })
      go false p = let z : true ≡ false = cc in absurd (true≢false z)
  rated_found Dot e k h d q = let z : true ≡ false = cc in absurd (true≢false z)
  rated_found Wedge e k h d q = let z : true ≡ false = cc in absurd (true≢false z)

  pub rated_is : (op : ProductOp) (k : ℕ) → Derived K l op r x → rated K l op r ≡ Some k → Found K l r x k
  unfolding rated
  rated_is op k d e = go (duration K) refl
    where
      go : (o : Option ℕ) → duration K ≡ o → Found K l r x k
      go None p = let z : None ≡ Some k = rw p at e in let y : true ≡ false = cc in absurd (true≢false y)
      go (Some o) p = rated_found op o k p d (rw p at e)
