-- The guarantees of a compilation as one test of each kind, so that a given list of kinds can be shown to have them by computation.
-- Assumes nothing.
use Prim.Native.Nat.{ℕ}
use mathlib.Core.Path.{◌≡◌, refl, sym}
use mathlib.Core.Bool.{Bool, true, false, not, ◌&&◌, true≢false}
use mathlib.Core.List.{List}
use Rattle.std.specs.declared.option.Option.{Option}
use Rattle.std.specs.declared.option.Option.TheVariants.{None, Some}
use lib.Dec.{eqb, ltb, leb}
use lib.ListN.{length, get_or-eq_default}
use borrow.Author.Tests.{eqb-true, ltb-true, ltb-false, leb-true}
use Rattle.laws.specs.Options.{found}
use Rattle.laws.specs.Ranges.{all}
use Rattle.laws.proofs.Cases.{and_left, and_right}
use Rattle.laws.proofs.All.{all_at}
use Rattle.dimension.specs.Fraction as F
use Rattle.dimension.specs.Dimension as D
use Rattle.dimension.specs.declared.dimensions.Dimensions.{Dimensions}
use Rattle.dimension.specs.declared.grade.ProductOp.{ProductOp}
use Rattle.dimension.proofs.ExponentLaws as E
use Rattle.rules.specs.Kinds.{Kinds, Rows, point, duration, carries}
use Rattle.rules.specs.Catalog.{meant}
use Rattle.rules.specs.Compile.{same_dims}
use Rattle.teaching.specs.Listed.{Listed, unlisted, kinds_by}
use Rattle.guarantees.specs.Premises.{IsDifference, IsDimensionless, IsRate, IsRow, Guaranteed}
use Rattle.guarantees.proofs.Given.{same_dims_law, meant_is}

-- ---- the tests
abbrev dims_fine : Dimensions → Bool
dims_fine a = eqb (length a.powers) 12 && all (λ b. F.declared (D.exponent a b)) 12

module _ (K : Kinds) where
  abbrev fine_difference : ℕ → ℕ → Bool
  fine_difference k d = ltb d K.count && same_dims (K.dims d) (K.dims k)

  abbrev aims : ℕ → ℕ → Dimensions → Bool
  aims k t a = found (duration K) (λ d. found (K.dims d) (λ b. carries K (record { dims = D.or_one (D.product a b); grade = K.grade k }) t) true) true

  abbrev rate_fine : ℕ → ℕ → Bool
  rate_fine k t = ltb k K.count && ltb t K.count && not (point K k) && not (point K t) && found (K.dims k) (aims k t) false

  unfoldable pub kind_fine : ℕ → Bool
  kind_fine k =
      leb (K.grade k) 3
      && found (K.dims k) dims_fine true
      && found (K.difference k) (fine_difference k) true
      && found (K.rate_of k) (rate_fine k) true
      && found (K.rate k) (λ j. meant k (K.rate_of j)) true

  abbrev pub one_fine : ℕ → Bool
  one_fine o = ltb o K.count && not (point K o) && same_dims (K.dims o) (Some D.one)

  -- ---- what they tell
  at_found : {A : Type 0} (o : Option A) (f : A → Bool) (b : Bool) {a : A} → o ≡ Some a → found o f b ≡ true → f a ≡ true
  at_found o f b p e = rw p at e

  no_point : (k : ℕ) → not (point K k) ≡ true → K.difference k ≡ None
  no_point k e = go (K.difference k) refl
    where
      go : (d : Option ℕ) → K.difference k ≡ d → K.difference k ≡ None
      go None p = p
      go (Some d) p = let z : false ≡ true = rw p at e in absurd (true≢false (sym z))

  dims_told : (a : Dimensions) → dims_fine a ≡ true → D.Declared a
  dims_told a e = record {
    twelve = eqb-true (length a.powers) 12 (and_left (eqb (length a.powers) 12) _ e);
    declared = λ b h. E.declared_told (D.exponent a b) (all_at (λ b. F.declared (D.exponent a b)) 12 b (and_right (eqb (length a.powers) 12) _ e) h);
  }

  difference_told : (k d : ℕ) → fine_difference k d ≡ true → IsDifference K k d
  difference_told k d e = record { below = ltb-true d K.count (and_left (ltb d K.count) _ e); dims = same_dims_law _ _ (and_right (ltb d K.count) _ e) }

  rate_told : (k t : ℕ) → rate_fine k t ≡ true → IsRate K k t
  rate_told k t e = go (K.dims k) refl
    where
      w : (ltb k K.count && ltb t K.count && not (point K k) && not (point K t)) ≡ true
      w = and_left (ltb k K.count && ltb t K.count && not (point K k) && not (point K t)) _ e

      x : (ltb k K.count && ltb t K.count && not (point K k)) ≡ true
      x = and_left (ltb k K.count && ltb t K.count && not (point K k)) _ w

      y : (ltb k K.count && ltb t K.count) ≡ true
      y = and_left (ltb k K.count && ltb t K.count) _ x

      v : found (K.dims k) (aims k t) false ≡ true
      v = and_right (ltb k K.count && ltb t K.count && not (point K k) && not (point K t)) _ e

      go : (u : Option Dimensions) → K.dims k ≡ u → IsRate K k t
      go None p = let z : false ≡ true = rw p at v in absurd (true≢false (sym z))
      go (Some a) p = record {
        below = (ltb-true k K.count (and_left (ltb k K.count) _ y), ltb-true t K.count (and_right (ltb k K.count) _ y));
        no_points = (no_point k (and_right (ltb k K.count && ltb t K.count) _ x), no_point t (and_right (ltb k K.count && ltb t K.count && not (point K k)) _ w));
        dims = a;
        resolved = p;
        fits = λ d b f g. at_found (K.dims d) _ true g (at_found (duration K) _ true f (at_found (K.dims k) (aims k t) false p v));
      }

  one_told : (o : ℕ) → one_fine o ≡ true → IsDimensionless K o
  one_told o e =
      let a = and_left (ltb o K.count && not (point K o)) _ e in
      record {
        below = ltb-true o K.count (and_left (ltb o K.count) _ a);
        linear = no_point o (and_right (ltb o K.count) _ a);
        dims = same_dims_law _ _ (and_right (ltb o K.count && not (point K o)) _ e);
      }

  module _ (k : ℕ) (e : kind_fine k ≡ true) where
    abbrev a : Bool
    a = leb (K.grade k) 3

    abbrev b : Bool
    b = found (K.dims k) dims_fine true

    abbrev c : Bool
    c = found (K.difference k) (fine_difference k) true

    abbrev d : Bool
    d = found (K.rate_of k) (rate_fine k) true

    split : (a ≡ true) × (b ≡ true) × (c ≡ true) × (d ≡ true) × (found (K.rate k) (λ j. meant k (K.rate_of j)) true ≡ true)
    unfolding kind_fine
    split =
        let w = and_left (a && b && c && d) _ e in
        let x = and_left (a && b && c) d w in
        let y = and_left (a && b) c x in
        (and_left a b y, and_right a b y, and_right (a && b) c x, and_right (a && b && c) d w, and_right (a && b && c && d) _ e)

  pub tested : (rows : Rows) → ((k : ℕ) → kind_fine k ≡ true) → found K.dimensionless one_fine true ≡ true
      → ((l : ℕ) (op : ProductOp) (r k : ℕ) → rows l op r ≡ Some k → IsRow K l op r k) → Guaranteed K rows
  tested rows f o r = record {
    grade = λ k. leb-true (K.grade k) 3 (split k (f k)).0;
    declared = λ k a p. dims_told a (at_found (K.dims k) dims_fine true p (split k (f k)).1);
    difference = λ k d p. difference_told k d (at_found (K.difference k) (fine_difference k) true p (split k (f k)).2);
    dimensionless = λ k p. one_told k (at_found K.dimensionless one_fine true p o);
    rate_of = λ k t p. rate_told k t (at_found (K.rate_of k) (rate_fine k) true p (split k (f k)).3);
    rate = λ k t p. meant_is t (K.rate_of k) (at_found (K.rate t) (λ j. meant t (K.rate_of j)) true p (split t (f t)).4);
    row = r;
  }

-- ---- and the premises about grades
module _ (K : Kinds) where
  abbrev pub scalar : ℕ → Bool
  scalar k = eqb (K.grade k) 0

  unfoldable pub point_fine : ℕ → Bool
  point_fine k = found (K.difference k) (λ d. eqb (K.grade d) (K.grade k)) true

  pub one_scalar : found K.dimensionless scalar true ≡ true → (o : ℕ) → K.dimensionless ≡ Some o → K.grade o ≡ 0
  one_scalar e o p = eqb-true (K.grade o) 0 (at_found K K.dimensionless scalar true p e)

  pub duration_scalar : found (duration K) scalar true ≡ true → (d : ℕ) → duration K ≡ Some d → K.grade d ≡ 0
  duration_scalar e d p = eqb-true (K.grade d) 0 (at_found K (duration K) scalar true p e)

  pub points_graded : ((k : ℕ) → point_fine k ≡ true) → (k d : ℕ) → K.difference k ≡ Some d → K.grade d ≡ K.grade k
  unfolding point_fine
  points_graded f k d p = eqb-true (K.grade d) (K.grade k) (at_found K (K.difference k) (λ d. eqb (K.grade d) (K.grade k)) true p (f k))

-- ---- of kinds as a list, past whose end nothing is declared
pub list_fine : (l : List Listed) (o t : Option ℕ) → all (kind_fine (kinds_by l o t)) (length l) ≡ true → (k : ℕ) → kind_fine (kinds_by l o t) k ≡ true
unfolding kind_fine
list_fine l o t e k = go (ltb k (length l)) refl
  where
    go : (b : Bool) → ltb k (length l) ≡ b → kind_fine (kinds_by l o t) k ≡ true
    go true p = all_at (kind_fine (kinds_by l o t)) (length l) k e (ltb-true k (length l) p)
    go false p = rw (get_or-eq_default l unlisted (ltb-false k (length l) p))

pub list_points : (l : List Listed) (o t : Option ℕ) → all (point_fine (kinds_by l o t)) (length l) ≡ true → (k : ℕ) → point_fine (kinds_by l o t) k ≡ true
unfolding point_fine
list_points l o t e k = go (ltb k (length l)) refl
  where
    go : (b : Bool) → ltb k (length l) ≡ b → point_fine (kinds_by l o t) k ≡ true
    go true p = all_at (point_fine (kinds_by l o t)) (length l) k e (ltb-true k (length l) p)
    go false p = rw (get_or-eq_default l unlisted (ltb-false k (length l) p))
