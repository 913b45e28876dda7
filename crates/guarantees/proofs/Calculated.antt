-- What a sum, product or power of kinds gives has exactly the dimensions (or none) and grade that are calculated. Assumes nothing.
use Prim.Native.Nat.{ℕ, ◌<◌}
use mathlib.Core.Path.{◌≡◌, refl, sym, ap}
use mathlib.Core.Bool.{Bool, true, false}
use Rattle.std.specs.declared.option.Option.{Option}
use Rattle.std.specs.declared.option.Option.TheVariants.{None, Some}
use lib.Dec.{eqb}
use borrow.Author.Tests.{eqb-true}
use Rattle.laws.specs.Out.{given}
use Rattle.dimension.specs.Fraction as F
use Rattle.dimension.specs.declared.rational.Rational.{Rational}
use Rattle.dimension.specs.declared.grade.ProductOp.{ProductOp}
use Rattle.rules.specs.Kinds.{Kinds, Rows, Graded}
use Rattle.rules.specs.Arithmetic.{Sum, Add, Sub, product, agree, sum_by, sum, scaled, raised, power}
use Rattle.rules.specs.Formula.{Kind, meaning, powered, product_of}
use Rattle.guarantees.specs.Premises.{Guaranteed, Scalars}
use Rattle.guarantees.proofs.Carried.{Carries}
use Rattle.guarantees.proofs.Derived.{Derived}
use Rattle.guarantees.proofs.Products.{product_found}
use Rattle.guarantees.proofs.Powers.{never, raised_power}

pub agreed : (x y k m : ℕ) → agree x y k ≡ given m → (x ≡ y) × (k ≡ m)
agreed x y k m e = go (eqb x y) refl
  where
    go : (t : Bool) → eqb x y ≡ t → (x ≡ y) × (k ≡ m)
    go true p = (eqb-true x y p, cc)
    go false p = let z : true ≡ false = cc in never z

-- no point, and the kind itself
pub scaled_tells : (K : Kinds) (code k m : ℕ) → scaled K code k ≡ given m → (K.difference k ≡ None) × (k ≡ m)
unfolding scaled
scaled_tells K code k m e = go (K.difference k) refl
  where
    go : (d : Option ℕ) → K.difference k ≡ d → (K.difference k ≡ None) × (k ≡ m)
    go (Some d) p = let z : true ≡ false = cc in never z
    go None p = (p, cc)

module _ (K : Kinds) (rows : Rows) (c : Guaranteed K rows) (s : Scalars K) where
  meant : (a k : ℕ) → K.dims a ≡ K.dims k → K.grade a ≡ K.grade k → meaning K (Kind a) ≡ meaning K (Kind k)
  meant a k p q = cc

  -- ---- "sum and compare take the left's"
  pub sum_meant : (t : Sum) (l r k : ℕ) → sum K t l r ≡ given k → meaning K (Kind l) ≡ meaning K (Kind k)
  unfolding sum sum_by
  sum_meant t l r k e = go t (K.difference l) refl (K.difference r) refl e
    where
      go : (t : Sum) (d : Option ℕ) → K.difference l ≡ d → (f : Option ℕ) → K.difference r ≡ f → sum_by t d f l r ≡ given k → meaning K (Kind l) ≡ meaning K (Kind k)
      go Sub (Some d) p (Some f) q e = let z = agreed l r d k e in rw (← z.1) (meant l d (sym (c.difference l d p).dims) (sym (s.points l d p)))
      go Add (Some d) p (Some f) q e = let z : true ≡ false = cc in never z
      go t (Some d) p None q e = let z = agreed d r l k e in rw z.1
      go Add None p (Some f) q e = let z = agreed f l r k e in rw (← z.0, ← z.1) (meant f r (c.difference r f q).dims (s.points r f q))
      go Sub None p (Some f) q e = let z : true ≡ false = cc in never z
      go t None p None q e = let z = agreed l r l k e in rw z.1

  -- ---- "products add or subtract exponents and use the grade rule"
  derived_meant : (l : ℕ) (op : ProductOp) (r k : ℕ) (x : Graded) → Derived K l op r x → Carries K x k → product_of K op (meaning K (Kind l)) (meaning K (Kind r)) ≡ given (meaning K (Kind k))
  unfolding product_of
  derived_meant l op r k x d h = rw (d.rule, d.has_left, d.has_right, h.dims, h.grade, d.dims)

  pub product_meant : (l : ℕ) (op : ProductOp) (r k : ℕ) → product K rows l op r ≡ given k → product_of K op (meaning K (Kind l)) (meaning K (Kind r)) ≡ given (meaning K (Kind k))
  product_meant l op r k e = let f = product_found K rows c s l op r k e in derived_meant l op r k f.0 f.1 f.2.carries

  -- ---- "power multiplies exponents, its grade scalar unless the exponent is one"
  raised_meant : (e : Rational) (k m : ℕ) → 0 < e.den → F.is_one e ≡ false → raised K k e ≡ given m → powered e (K.dims k) (K.grade k) ≡ meaning K (Kind m)
  raised_meant e k m h p x = let r = raised_power K rows c e k m h x in rw (r.1, p, r.2.dims, r.2.grade s, r.2.answers)

  pub power_meant : (code k m : ℕ) (e : Rational) → 0 < e.den → power K code k (Some e) ≡ given m → powered e (K.dims k) (K.grade k) ≡ meaning K (Kind m)
  unfolding power scaled
  power_meant code k m e h x = go (K.difference k) refl (F.is_one e) refl
    where
      go : (d : Option ℕ) → K.difference k ≡ d → (t : Bool) → F.is_one e ≡ t → powered e (K.dims k) (K.grade k) ≡ meaning K (Kind m)
      go (Some d) p t q = let z : true ≡ false = cc in never z
      go None p true q = let z : k ≡ m = cc in rw q (ap (λ (j : ℕ). meaning K (Kind j)) z)
      go None p false q = raised_meant e k m h q (rw (p, q) at x)
