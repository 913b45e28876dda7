-- The premises are met: by the teaching catalog's image alone, and with a row 6 × 7 = 1 added, turned too, which lifts the 44 of 6 × 7.
-- Assumes nothing.
use Prim.Native.Nat.{ℕ, zero, suc}
use mathlib.Core.Path.{◌≡◌, refl}
use mathlib.Core.Bool.{Bool, true, false, cond, ◌&&◌, true≢false}
use mathlib.Core.List.{List, [], ◌∷◌, zip_with}
use Rattle.std.specs.declared.option.Option.TheVariants.{None, Some}
use native.Mathlib.Omega.{arith}
use lib.Dec.{eqb, ltb, lit<}
use lib.IntN.{pos}
use borrow.Author.Tests.{eqb-true, ltb-true}
use Rattle.laws.specs.Out.{given}
use Rattle.laws.specs.Ranges.{all, picked}
use Rattle.laws.proofs.Cases.{and_left, and_right}
use Rattle.dimension.specs.Gcd.{gcd, euclid}
use Rattle.dimension.specs.Fraction as F
use Rattle.dimension.specs.Dimension as D
use Rattle.dimension.specs.Grade as G
use Rattle.dimension.specs.declared.grade.ProductOp.{ProductOp}
use Rattle.dimension.specs.declared.grade.ProductOp.TheVariants.{Mul, Div, Dot, Wedge}
use Rattle.rules.specs.Kinds.{Rows, Graded, carries, fits}
use Rattle.rules.specs.Refusal.{UnresolvedTwin}
use Rattle.rules.specs.Arithmetic.{operand, graded, grade_by, joined, derive, neutral_by, neutral, rated_by, rated, resolve, product, combine, indexed}
use Rattle.rules.specs.Formula.{Token, kind, Kind, answered, stopped, walk, shape, malformed_at, two_kinds, binary_term, kind_term, terms, formula}
use Rattle.teaching.specs.Listed.{bases, listed, teaching, no_rows}
use Rattle.teaching.specs.Image.{image}
use Rattle.teaching.proofs.Compiles.{compiled, teaches}
use Rattle.guarantees.specs.AtToken.{times_token}
use Rattle.guarantees.specs.Premises.{IsRow, Guaranteed, Scalars, Premises}
use Rattle.guarantees.specs.Images.{Bytes}
use Rattle.guarantees.proofs.Images.{image_guaranteed}
use Rattle.guarantees.proofs.Tested.{point_fine, one_scalar, duration_scalar, points_graded, list_points}

-- ---- the image is bytes
abbrev small : List ℕ → Bool
small [] = true
small (x ∷ s) = ltb x 256 && small s

pub small_bytes : (s : List ℕ) → small s ≡ true → Bytes s
small_bytes [] e i = omega arith
small_bytes (x ∷ s) e zero = ltb-true x 256 (and_left (ltb x 256) _ e)
small_bytes (x ∷ s) e (suc i) = small_bytes s (and_right (ltb x 256) _ e) i

pub image_bytes : Bytes image
unfolding image
image_bytes = small_bytes image refl

pub teaching_guaranteed : Guaranteed teaching no_rows
teaching_guaranteed = image_guaranteed image image_bytes 9296 compiled teaches

-- ---- the scalar premises
pub teaching_scalars : Scalars teaching
unfolding teaching listed point_fine all
teaching_scalars = record {
  dimensionless = one_scalar teaching refl;
  duration = duration_scalar teaching refl;
  points = points_graded teaching (list_points listed (Some 0) (Some 3) refl);
}

-- ---- 6 × 7 = 1, commutative
unfoldable pub taught_row : Rows
taught_row l Mul r = cond (eqb l 6) (cond (eqb r 7) (Some 1) None) (cond (eqb l 7) (cond (eqb r 6) (Some 1) None) None)
taught_row l Div r = None
taught_row l Dot r = None
taught_row l Wedge r = None

-- it is a row for just these two
module _ (Q : ℕ → ProductOp → ℕ → ℕ → Type 0) (p : Q 6 Mul 7 1) (q : Q 7 Mul 6 1) where
  never : (l : ℕ) (op : ProductOp) (r k : ℕ) → None ≡ Some k → Q l op r k
  never l op r k e = let z : true ≡ false = cc in absurd (true≢false z)

  row_is : (l : ℕ) (op : ProductOp) (r k : ℕ) → taught_row l op r ≡ Some k → Q l op r k
  unfolding taught_row
  row_is l Div r k e = never l Div r k e
  row_is l Dot r k e = never l Dot r k e
  row_is l Wedge r k e = never l Wedge r k e
  row_is l Mul r k e = go (eqb l 6) refl (eqb r 7) refl (eqb l 7) refl (eqb r 6) refl
    where
      go : (a : Bool) → eqb l 6 ≡ a → (b : Bool) → eqb r 7 ≡ b → (c : Bool) → eqb l 7 ≡ c → (d : Bool) → eqb r 6 ≡ d → Q l Mul r k
      go true x true y c z d w = let j : 1 ≡ k = cc in rw (eqb-true l 6 x, eqb-true r 7 y, ← j) p
      go true x false y c z d w = never l Mul r k (rw (x, y) at e)
      go false x b y true z true w = let j : 1 ≡ k = cc in rw (eqb-true l 7 z, eqb-true r 6 w, ← j) q
      go false x b y true z false w = never l Mul r k (rw (x, z, w) at e)
      go false x b y false z d w = never l Mul r k (rw (x, z) at e)

abbrev volume : Graded
volume = record { dims = bases (pos 3) (pos 0); grade = 0 }

-- among volume and intake, it names volume
by_volume : (l r : ℕ) → derive teaching l Mul r ≡ given volume → resolve teaching l Mul r volume ≡ 1 ∷ 5 ∷ [] → IsRow teaching l Mul r 1
unfolding teaching listed carries D.equal F.equal
by_volume l r p q = record { below = lit< tt; no_point = refl; of = volume; derived = p; carried = refl; several = rw q (omega arith) }

row_fits_law : IsRow teaching 6 Mul 7 1 × IsRow teaching 7 Mul 6 1
unfolding teaching listed derive operand graded grade_by joined neutral neutral_by rated rated_by resolve fits carries picked D.product D.outcome D.equal G.product F.sum F.answer F.limited F.within F.lowest F.equal gcd euclid zip_with
row_fits_law = (by_volume 6 7 refl refl, by_volume 7 6 refl refl)

pub with_row : Guaranteed teaching taught_row
with_row = record {
  grade = teaching_guaranteed.grade;
  declared = teaching_guaranteed.declared;
  difference = teaching_guaranteed.difference;
  dimensionless = teaching_guaranteed.dimensionless;
  rate_of = teaching_guaranteed.rate_of;
  rate = teaching_guaranteed.rate;
  row = row_is (IsRow teaching) row_fits_law.0 row_fits_law.1;
}

-- without and with the row
pub met : Premises teaching no_rows taught_row
met = record { compiles = teaching_guaranteed; compiles_too = with_row; more = λ l op r k e. let z : true ≡ false = cc in absurd (true≢false z); scalars = teaching_scalars }

-- ---- "6×7 → 44 with 1, 5", and lifted
abbrev area_by_bore : List Token
area_by_bore = kind 6 ∷ kind 7 ∷ times_token Mul ∷ []

pub twins_without : formula teaching no_rows area_by_bore ≡ stopped 2 (UnresolvedTwin 6 Mul 7 (1 ∷ 5 ∷ []))
unfolding teaching listed formula malformed_at walk shape terms kind_term indexed binary_term two_kinds combine product derive operand graded grade_by joined neutral neutral_by rated rated_by resolve fits carries picked D.product D.outcome D.equal G.product F.sum F.answer F.limited F.within F.lowest F.equal gcd euclid zip_with
twins_without = refl

pub volume_with : formula teaching taught_row area_by_bore ≡ answered (Kind 1)
unfolding teaching listed taught_row formula malformed_at walk shape terms kind_term indexed binary_term two_kinds combine product derive operand graded grade_by joined neutral neutral_by rated rated_by resolve fits carries picked D.product D.outcome D.equal G.product F.sum F.answer F.limited F.within F.lowest F.equal gcd euclid zip_with
volume_with = refl
