-- The neutral rule gives a kind that carries what is derived, where the dimensionless kind is scalar. Assumes nothing.
use Prim.Native.Nat.{ℕ, ◌<◌}
use mathlib.Core.Path.{◌≡◌, refl, sym, ◌∙◌, ap, subst}
use mathlib.Core.Bool.{Bool, true, false, true≢false}
use Rattle.std.specs.declared.option.Option.{Option}
use Rattle.std.specs.declared.option.Option.TheVariants.{None, Some}
use lib.Dec.{eqb}
use borrow.Author.Tests.{eqb-true}
use Rattle.dimension.specs.Dimension as D
use Rattle.dimension.specs.Grade as G
use Rattle.dimension.specs.declared.dimensions.Dimensions.{Dimensions}
use Rattle.dimension.specs.declared.grade.ProductOp.{ProductOp}
use Rattle.dimension.specs.declared.grade.ProductOp.TheVariants.{Mul, Div, Dot, Wedge}
use Rattle.dimension.proofs.DimensionLaws as L
use Rattle.rules.specs.Kinds.{Kinds, Rows, Graded}
use Rattle.rules.specs.Arithmetic.{grade_by, joined, neutral_by, neutral}
use Rattle.guarantees.specs.Premises.{Guaranteed, Scalars}
use Rattle.guarantees.proofs.Missing.{by_scalar, scalar_by, over_scalar}
use Rattle.guarantees.proofs.Carried.{Carries}
use Rattle.guarantees.proofs.Derived.{Derived}

-- what a lookup of l and r finds: a kind, no point, that carries x
pub record Found (K : Kinds) (l r : ℕ) (x : Graded) (k : ℕ) : Type 0 where
  pub carries : Carries K x k
  pub no_point : K.difference k ≡ None
  pub below : l < K.count → r < K.count → k < K.count

-- the value of what is answered
pub value_is : (o : Option Dimensions) (v : Dimensions) → o ≡ Some v → D.or_one o ≡ v
value_is o v e = ap D.or_one e

pub ruled : (K : Kinds) (op : ProductOp) (a b g : ℕ) → grade_by K op a b ≡ Some g → G.product op a b ≡ Some g
unfolding grade_by
ruled K op a b g e = e

module _ (K : Kinds) (rows : Rows) (c : Guaranteed K rows) (s : Scalars K) (l r : ℕ) (x : Graded) where
  abbrev sound : (k : ℕ) (a : Dimensions) → K.dims k ≡ Some a → D.Sound a
  sound k a e = L.declared_sound a (c.declared k a e)

  -- one of the two
  left_found : (op : ProductOp) (d : Derived K l op r x) → joined op d.left d.right ≡ d.left → K.grade l ≡ x.grade → Found K l r x l
  left_found op d e g = record { carries = record { dims = d.has_left ∙ ap Some (sym (d.dims ∙ e)); grade = g }; no_point = d.no_left; below = λ p q. p }

  right_found : (op : ProductOp) (d : Derived K l op r x) → joined op d.left d.right ≡ d.right → K.grade r ≡ x.grade → Found K l r x r
  right_found op d e g = record { carries = record { dims = d.has_right ∙ ap Some (sym (d.dims ∙ e)); grade = g }; no_point = d.no_right; below = λ p q. q }

  -- a kind that is the dimensionless one
  is_one_law : (o k : ℕ) (a : Dimensions) → K.dimensionless ≡ Some o → k ≡ o → K.dims k ≡ Some a → a ≡ D.one
  is_one_law o k a h e p = let z : K.dims o ≡ Some D.one = (c.dimensionless o h).dims in cc

  is_scalar : (o k : ℕ) → K.dimensionless ≡ Some o → k ≡ o → K.grade k ≡ 0
  is_scalar o k h e = rw e (s.dimensionless o h)

  neutral_found : (op : ProductOp) (o k : ℕ) → K.dimensionless ≡ Some o → Derived K l op r x → neutral_by op o l r ≡ Some k → Found K l r x k
  unfolding neutral_by joined
  neutral_found Mul o k h d e = go (eqb r o) refl (eqb l o) refl
    where
      go : (t : Bool) → eqb r o ≡ t → (u : Bool) → eqb l o ≡ u → Found K l r x k
      go true p u q =
          let w : r ≡ o = eqb-true r o p in
          let z : l ≡ k = cc in
          let m = ap (λ (b : Dimensions). D.or_one (D.product d.left b)) (is_one_law o r d.right h w d.has_right) ∙ value_is _ d.left (L.product_one d.left (sound l _ d.has_left)) in
          let f = left_found Mul d m (by_scalar _ _ _ (c.grade l) (is_scalar o r h w) (ruled K Mul _ _ _ d.rule)) in
          subst (λ (j : ℕ). Found K l r x j) z f
      go false p true q =
          let w : l ≡ o = eqb-true l o q in
          let z : r ≡ k = cc in
          let m = ap (λ (a : Dimensions). D.or_one (D.product a d.right)) (is_one_law o l d.left h w d.has_left) ∙ value_is _ d.right (L.one_product d.right (sound r _ d.has_right)) in
          let f = right_found Mul d m (scalar_by _ _ _ (c.grade r) (is_scalar o l h w) (ruled K Mul _ _ _ d.rule)) in
          subst (λ (j : ℕ). Found K l r x j) z f
      go false p false q = let z : true ≡ false = cc in absurd (true≢false z)
  neutral_found Div o k h d e = go (eqb r o) refl (eqb l r) refl
    where
      g : (K.grade l ≡ x.grade) × (K.grade r ≡ 0)
      g = over_scalar _ _ _ (c.grade l) (c.grade r) (ruled K Div _ _ _ d.rule)

      go : (t : Bool) → eqb r o ≡ t → (u : Bool) → eqb l r ≡ u → Found K l r x k
      go true p u q =
          let w : r ≡ o = eqb-true r o p in
          let z : l ≡ k = cc in
          let m = ap (λ (b : Dimensions). D.or_one (D.quotient d.left b)) (is_one_law o r d.right h w d.has_right) ∙ value_is _ d.left (L.quotient_one d.left (sound l _ d.has_left)) in
          subst (λ (j : ℕ). Found K l r x j) z (left_found Div d m g.0)
      go false p true q =
          let w : l ≡ r = eqb-true l r q in
          let z : o ≡ k = cc in
          let y : d.right ≡ d.left = cc (d.has_left, d.has_right) in
          let i = c.dimensionless o h in
          let m = ap (λ (b : Dimensions). D.or_one (D.quotient d.left b)) y ∙ value_is _ D.one (L.quotient_self d.left (sound l _ d.has_left)) in
          let f : Found K l r x o = record {
            carries = record { dims = i.dims ∙ ap Some (sym (d.dims ∙ m)); grade = cc (s.dimensionless o h, g.0, g.1) };
            no_point = i.linear;
            below = λ p q. i.below;
          } in
          subst (λ (j : ℕ). Found K l r x j) z f
      go false p false q = let z : true ≡ false = cc in absurd (true≢false z)
  neutral_found Dot o k h d e = let z : true ≡ false = cc in absurd (true≢false z)
  neutral_found Wedge o k h d e = let z : true ≡ false = cc in absurd (true≢false z)

  pub neutral_is : (op : ProductOp) (k : ℕ) → Derived K l op r x → neutral K l op r ≡ Some k → Found K l r x k
  unfolding neutral
  neutral_is op k d e = go K.dimensionless refl
    where
      go : (o : Option ℕ) → K.dimensionless ≡ o → Found K l r x k
      go None p = let z : true ≡ false = cc in absurd (true≢false z)
      go (Some o) p = neutral_found op o k p d (rw p at e)
