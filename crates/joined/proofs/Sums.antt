-- The words of twelve whole numbers added or subtracted are those of the product or quotient. Assumes nothing.
use Prim.Native.Nat.{ℕ, ◌+◌, ◌*◌, ◌<◌}
use mathlib.Core.Path.{◌≡◌, sym, ◌∙◌, ap}
use mathlib.Core.Bool.{Bool, true, false, ◌||◌}
use mathlib.Core.List.{List}
use native.Mathlib.Omega.{arith}
use borrow.Author.Tests.{eqb-true}
use lib.Dec.{eqb, ltb, leb}
use lib.IntN.{ℤ, ◌+ℤ◌, ◌-ℤ◌}
use lib.ListN.{length}
use mir.Syntax.{w32}
use mir.Val.{SFits, to_z, of_z}
use mir.ValLaws.{to_z-of_z}
use Rattle.laws.specs.Ranges.{all, tab}
use Rattle.laws.proofs.All.{all_at}
use Rattle.laws.proofs.Cases.{and_left, and_right}
use Rattle.laws.proofs.Tab.{tab_at, length_tab}
use Rattle.dimension.specs.Integer as I
use Rattle.dimension.specs.Fraction as F
use Rattle.dimension.specs.Dimension as D
use Rattle.dimension.specs.declared.rational.Rational.{Rational}
use Rattle.std.specs.declared.option.Option.TheVariants.{Some}
use Rattle.dimension.specs.declared.dimensions.Dimensions.{Dimensions}
use Rattle.std.specs.declared.option.Option.{Option}
use Rattle.dimension.specs.declared.grade.ProductOp.{ProductOp}
use Rattle.dimension.specs.declared.grade.ProductOp.TheVariants.{Div}
use Rattle.dimension.proofs.BitLaws as B
use Rattle.dimension.proofs.DimensionLaws as L
use Rattle.rules.specs.Kinds.{Kinds, same_op}
use Rattle.rules.specs.Table.{word, kinds_of, exponent_from, dims_from}
use Rattle.rules.specs.Arithmetic as rule
use Rattle.joined.specs.Shown.{whole_at, joined_by, joined_dims, dims_at}

-- the numerator of exponent b
abbrev num : List ℕ → ℕ → ℤ
num t b = I.twos 2147483648 (word t (2 * b))

module _ (t : List ℕ) (b : ℕ) (e : whole_at t 0 b ≡ true) where
  one : word t (0 + 2 * b + 1) ≡ 1
  unfolding whole_at
  one = eqb-true (word t (0 + 2 * b + 1)) 1 (and_left (eqb (word t (0 + 2 * b + 1)) 1) (ltb (word t (0 + 2 * b)) 32768 || leb 4294934528 (word t (0 + 2 * b))) e)

  small : (ltb (word t (2 * b)) 32768 || leb 4294934528 (word t (2 * b))) ≡ true
  unfolding whole_at
  small =
      let z : 0 + 2 * b ≡ 2 * b = omega arith in
      rw z at (and_right (eqb (word t (0 + 2 * b + 1)) 1) (ltb (word t (0 + 2 * b)) 32768 || leb 4294934528 (word t (0 + 2 * b))) e)

  is_whole : exponent_from t 0 b ≡ F.ratio (num t b) 1
  unfolding exponent_from
  is_whole =
      let z : 0 + 2 * b ≡ 2 * b = omega arith in
      rw (one, z)

-- exponent b of two, joined
abbrev pub joined_at : List ℕ → List ℕ → Bool → ℕ → Rational
joined_at t u div b = F.ratio (joined_by div (num t b) (num u b)) 1

module _ (t u : List ℕ) (a : (i : ℕ) → word t i < 4294967296) (c : (i : ℕ) → word u i < 4294967296) (e : all (whole_at t 0) 12 ≡ true) (f : all (whole_at u 0) 12 ≡ true) where
  module _ (b : ℕ) (h : b < 12) where
    l : whole_at t 0 b ≡ true
    l = all_at (whole_at t 0) 12 b e h

    r : whole_at u 0 b ≡ true
    r = all_at (whole_at u 0) 12 b f h

    at : (s : List ℕ) → whole_at s 0 b ≡ true → D.exponent (dims_from s 0) b ≡ F.ratio (num s b) 1
    unfolding dims_from
    at s g = tab_at (exponent_from s 0) 12 b F.zero h ∙ is_whole s b g

    pub fits : (div : Bool) → SFits w32 (joined_by div (num t b) (num u b))
    fits true = B.whole_difference_fits _ _ (a (2 * b)) (c (2 * b)) (small t b l) (small u b r)
    fits false = B.whole_sum_fits _ _ (a (2 * b)) (c (2 * b)) (small t b l) (small u b r)

    -- in code: x and y are the two numerators as they are read
    read : (s : List ℕ) {x : ℤ} → word s (2 * b) < 4294967296 → x ≡ num s b → to_z w32 (of_z w32 x) ≡ num s b
    read s k g = rw g (to_z-of_z w32 (num s b) (B.twos_fits 2147483648 (word s (2 * b)) (omega arith) k))

    module _ {x y : ℤ} (m : x ≡ num t b) (n : y ≡ num u b) where
      pub minus_fits : SFits w32 (to_z w32 (of_z w32 x) -ℤ to_z w32 (of_z w32 y))
      minus_fits = rw (read t (a (2 * b)) m, read u (c (2 * b)) n) (fits true)

      pub plus_fits : SFits w32 (to_z w32 (of_z w32 x) +ℤ to_z w32 (of_z w32 y))
      plus_fits = rw (read t (a (2 * b)) m, read u (c (2 * b)) n) (fits false)

    sum_at : F.sum (D.exponent (dims_from t 0) b) (D.exponent (dims_from u 0) b) ≡ Some (joined_at t u false b)
    sum_at = rw (at t l, at u r) (B.whole_sum _ _ (a (2 * b)) (c (2 * b)) (small t b l) (small u b r))

    difference_at : F.difference (D.exponent (dims_from t 0) b) (D.exponent (dims_from u 0) b) ≡ Some (joined_at t u true b)
    difference_at = rw (at t l, at u r) (B.whole_difference _ _ (a (2 * b)) (c (2 * b)) (small t b l) (small u b r))

    -- the bits are those of the numerator
    pub bits_are : (div : Bool) → I.twos 2147483648 (I.bits32 (joined_by div (num t b) (num u b))) ≡ (joined_at t u div b).num
    bits_are div = B.twos_bits _ (fits div)

  twelve : (s : List ℕ) → length (dims_from s 0).powers ≡ 12
  unfolding dims_from
  twelve s = length_tab (exponent_from s 0) 12

  pub joined_is : (div : Bool) → joined_dims div (dims_from t 0) (dims_from u 0) ≡ D.dimensions (tab (joined_at t u div) 12)
  joined_is true = ap (λ (o : Option Dimensions). (D.or_one o)) (L.quotient_of _ _ (twelve t) (twelve u) (D.dimensions (tab (joined_at t u true) 12)) (length_tab (joined_at t u true) 12) (λ k h. difference_at k h ∙ ap Some (sym (tab_at (joined_at t u true) 12 k F.zero h))))
  joined_is false = ap (λ (o : Option Dimensions). (D.or_one o)) (L.product_of_law _ _ (twelve t) (twelve u) (D.dimensions (tab (joined_at t u false) 12)) (length_tab (joined_at t u false) 12) (λ k h. sum_at k h ∙ ap Some (sym (tab_at (joined_at t u false) 12 k F.zero h))))

-- ---- in code: a and b are the dimensions of the two kinds, as their words say
pub joined_whole : (K : Kinds) (l r : ℕ) (op : ProductOp) {a b v : Dimensions} {div : Bool} → a ≡ dims_at K l → b ≡ dims_at K r → div ≡ same_op op Div → v ≡ joined_dims div a b → v ≡ rule.joined op (dims_at K l) (dims_at K r)
unfolding rule.joined
joined_whole K l r op e f d q = rw (← e, ← f, ← d) q

-- x and y are the dimensions of the two kinds
pub joined_plain : (t : List ℕ) (l : ℕ) (op : ProductOp) (r : ℕ) {x y z v : Dimensions} → x ≡ dims_at (kinds_of t) l → y ≡ dims_at (kinds_of t) r → z ≡ rule.joined op x y → v ≡ z → v ≡ rule.joined op (dims_at (kinds_of t) l) (dims_at (kinds_of t) r)
joined_plain t l op r p q e f = f ∙ rw (← p, ← q) e
