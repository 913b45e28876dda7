-- What a derivation tells: both are resolved and no points, the grade rule answers, and exponents are added or subtracted. Assumes nothing.
use Prim.Native.Nat.{ℕ}
use mathlib.Core.Path.{◌≡◌, refl, sym, ◌∙◌, ap}
use Rattle.std.specs.declared.option.Option.{Option}
use Rattle.std.specs.declared.option.Option.TheVariants.{None, Some}
use native.Mathlib.Omega.{arith}
use Rattle.laws.specs.Out.{given}
use Rattle.dimension.specs.Dimension as D
use Rattle.dimension.specs.declared.dimensions.Dimensions.{Dimensions}
use Rattle.dimension.specs.declared.grade.ProductOp.{ProductOp}
use Rattle.dimension.specs.declared.grade.ProductOp.TheVariants.{Mul, Div, Dot, Wedge}
use Rattle.dimension.proofs.DimensionLaws as L
use Rattle.dimension.proofs.GradeLaws as R
use Rattle.rules.specs.Kinds.{Kinds, Graded}
use Rattle.rules.specs.Arithmetic.{operand, grade_by, graded, joined, derive}

pub record Derived (K : Kinds) (l : ℕ) (op : ProductOp) (r : ℕ) (x : Graded) : Type 0 where
  pub left : Dimensions
  pub right : Dimensions
  pub has_left : K.dims l ≡ Some left
  pub has_right : K.dims r ≡ Some right
  pub no_left : K.difference l ≡ None
  pub no_right : K.difference r ≡ None
  pub rule : grade_by K op (K.grade l) (K.grade r) ≡ Some x.grade
  pub dims : x.dims ≡ joined op left right

module _ (K : Kinds) (l : ℕ) (op : ProductOp) (r : ℕ) where
  pub derive_tells : (x : Graded) → derive K l op r ≡ given x → Derived K l op r x
  unfolding derive operand graded
  derive_tells x e = go (K.dims l) refl (K.dims r) refl (K.difference l) refl (K.difference r) refl (grade_by K op (K.grade l) (K.grade r)) refl
    where
      go : (u : Option Dimensions) → K.dims l ≡ u → (v : Option Dimensions) → K.dims r ≡ v → (d : Option ℕ) → K.difference l ≡ d → (f : Option ℕ) → K.difference r ≡ f
          → (h : Option ℕ) → grade_by K op (K.grade l) (K.grade r) ≡ h → Derived K l op r x
      go None p v q d s f t h w = let z : ◌≡◌ {A = ℕ} 0 1 = cc in absurd (omega arith)
      go (Some a) p None q d s f t h w = let z : ◌≡◌ {A = ℕ} 0 1 = cc in absurd (omega arith)
      go (Some a) p (Some b) q (Some d) s f t h w = let z : ◌≡◌ {A = ℕ} 0 1 = cc in absurd (omega arith)
      go (Some a) p (Some b) q None s (Some f) t h w = let z : ◌≡◌ {A = ℕ} 0 1 = cc in absurd (omega arith)
      go (Some a) p (Some b) q None s None t None w = let z : ◌≡◌ {A = ℕ} 0 1 = cc in absurd (omega arith)
      go (Some a) p (Some b) q None s None t (Some g) w =
          record { left = a; right = b; has_left = p; has_right = q; no_left = s; no_right = t; rule = cc; dims = cc }

  pub tells_derive : (a b : Dimensions) (g : ℕ) → K.dims l ≡ Some a → K.dims r ≡ Some b → K.difference l ≡ None → K.difference r ≡ None
      → grade_by K op (K.grade l) (K.grade r) ≡ Some g → derive K l op r ≡ given (record { dims = joined op a b; grade = g })
  unfolding derive operand graded
  tells_derive a b g p q s t w = cc

-- ---- turned: in all but quotients the same is derived for right and left
joined_turned : (op : ProductOp) (a b : Dimensions) → D.Sound a → D.Sound b → (op ≡ Div → ⊥) → joined op a b ≡ joined op b a
unfolding joined
joined_turned Mul a b h k n = ap D.or_one (L.product_comm a b h.twelve k.twelve)
joined_turned Div a b h k n = absurd (n refl)
joined_turned Dot a b h k n = ap D.or_one (L.product_comm a b h.twelve k.twelve)
joined_turned Wedge a b h k n = ap D.or_one (L.product_comm a b h.twelve k.twelve)

pub grade_turned : (K : Kinds) (op : ProductOp) (a b : ℕ) → (op ≡ Div → ⊥) → grade_by K op a b ≡ grade_by K op b a
unfolding grade_by
grade_turned K op a b n = R.product_comm op a b n

module _ (K : Kinds) (sound : (k : ℕ) (a : Dimensions) → K.dims k ≡ Some a → D.Sound a) where
  pub derive_turned : (l : ℕ) (op : ProductOp) (r : ℕ) (x : Graded) → (op ≡ Div → ⊥) → derive K l op r ≡ given x → derive K r op l ≡ given x
  derive_turned l op r x n e =
      let d = derive_tells K l op r x e in
      let g : grade_by K op (K.grade r) (K.grade l) ≡ Some x.grade = grade_turned K op (K.grade r) (K.grade l) n ∙ d.rule in
      tells_derive K r op l d.right d.left x.grade d.has_right d.has_left d.no_right d.no_left g
      ∙ ap (λ (y : Dimensions). given (record { dims = y; grade = x.grade }))
      (joined_turned op d.right d.left (sound r _ d.has_right) (sound l _ d.has_left) n ∙ sym d.dims)
