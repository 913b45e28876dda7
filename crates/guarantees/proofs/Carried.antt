-- What the tests `carries` and `fits` tell, and when they hold. Assumes nothing.
use Prim.Native.Nat.{ℕ}
use mathlib.Core.Path.{◌≡◌, refl, sym, ◌∙◌, ap}
use mathlib.Core.Bool.{true, false, ◌&&◌, true≢false}
use Rattle.std.specs.declared.option.Option.{Option}
use Rattle.std.specs.declared.option.Option.TheVariants.{None, Some}
use lib.Dec.{eqb}
use borrow.Author.Tests.{eqb-true, eq-eqb}
use Rattle.laws.proofs.Cases.{and_left, and_right}
use Rattle.dimension.specs.Dimension as D
use Rattle.dimension.specs.declared.dimensions.Dimensions.{Dimensions}
use Rattle.dimension.proofs.DimensionLaws as L
use Rattle.rules.specs.Kinds.{Kinds, Graded, carries, fits}

-- kind k's record gives exactly these
pub record Carries (K : Kinds) (x : Graded) (k : ℕ) : Type 0 where
  pub dims : K.dims k ≡ Some x.dims
  pub grade : K.grade k ≡ x.grade

module _ (K : Kinds) (x : Graded) (k : ℕ) where
  pub carries_tells : carries K x k ≡ true → Carries K x k
  unfolding carries
  carries_tells e = go (K.dims k) refl
    where
      go : (u : Option Dimensions) → K.dims k ≡ u → Carries K x k
      go None q =
          let h : (eqb (K.grade k) x.grade && false) ≡ true = rw q at e in
          absurd (true≢false (sym (and_right (eqb (K.grade k) x.grade) false h)))
      go (Some a) q =
          let h : (eqb (K.grade k) x.grade && D.equal a x.dims) ≡ true = rw q at e in
          record {
            dims = q ∙ ap Some (L.equal_same a x.dims (and_right (eqb (K.grade k) x.grade) _ h));
            grade = eqb-true _ _ (and_left (eqb (K.grade k) x.grade) _ h);
          }

  pub tells_carries : Carries K x k → carries K x k ≡ true
  unfolding carries
  tells_carries c = rw (c.dims, eq-eqb (K.grade k) x.grade c.grade) (L.same_equal x.dims x.dims refl)

  pub fits_tells : fits K x k ≡ true → Carries K x k × (K.difference k ≡ None)
  unfolding fits
  fits_tells e = go (K.difference k) refl
    where
      go : (d : Option ℕ) → K.difference k ≡ d → Carries K x k × (K.difference k ≡ None)
      go (Some d) p = let z : true ≡ false = cc in absurd (true≢false z)
      go None p = (carries_tells (rw p at e), p)

  pub tells_fits : Carries K x k → K.difference k ≡ None → fits K x k ≡ true
  unfolding fits
  tells_fits c p = rw p (tells_carries c)
