-- The twins of a product or a power: the kinds that fit, two at least and no more than there are kinds, ascending. Assumes nothing.
use Prim.Native.Nat.{ℕ, ◌<◌, ◌≤◌}
use mathlib.Core.Path.{◌≡◌, refl, sym, ◌∙◌}
use mathlib.Core.Bool.{Bool, true, false, true≢false}
use mathlib.Core.List.{List, [], ◌∷◌}
use Rattle.std.specs.declared.option.Option.{Option}
use Rattle.std.specs.declared.option.Option.TheVariants.{None, Some}
use native.Mathlib.Omega.{arith}
use lib.Dec.{eqb}
use lib.ListN.{length, get_or}
use Rattle.laws.specs.Out.{refused}
use Rattle.laws.proofs.Picked.{picked_few}
use Rattle.dimension.specs.Fraction as F
use Rattle.dimension.specs.Dimension as D
use Rattle.dimension.specs.declared.rational.Rational.{Rational}
use Rattle.dimension.specs.declared.dimensions.Dimensions.{Dimensions}
use Rattle.dimension.specs.declared.grade.ProductOp.{ProductOp}
use Rattle.rules.specs.Kinds.{Kinds, Rows, Graded, fits, candidates}
use Rattle.rules.specs.Refusal.{UnresolvedTwin, UnresolvedPowerTwin}
use Rattle.rules.specs.Arithmetic.{operand, product, scaled, neutral_power, raised, power}
use Rattle.guarantees.proofs.Picks.{Ascending, distinct, member_passes, picked_ascending}
use Rattle.guarantees.proofs.ProductLaws.{product_twins}

-- ks are the kinds that fit x, and there are several
pub record Twins (K : Kinds) (x : Graded) (ks : List ℕ) : Type 0 where
  pub are : ks ≡ candidates K x
  pub several : 2 ≤ length ks

module _ (K : Kinds) (x : Graded) (ks : List ℕ) (h : Twins K x ks) where
  pub ascend : Ascending ks
  ascend = rw h.are (picked_ascending (fits K x) K.count)

  pub differ : (i j : ℕ) → i < length ks → j < length ks → get_or ks i 0 ≡ get_or ks j 0 → i ≡ j
  differ = distinct ks ascend

  -- "a twin count not that of the fitting kinds" can't be: each twin is a kind that fits
  pub each_fits : (i : ℕ) → i < length ks → (fits K x (get_or ks i 0) ≡ true) × (get_or ks i 0 < K.count)
  each_fits i l =
      let m : i < length (candidates K x) = rw h.are at l in
      rw h.are (member_passes (fits K x) K.count i m)

  pub few : length ks ≤ K.count
  few = rw h.are (picked_few (fits K x) K.count)

-- 44
pub of_product : (K : Kinds) (rows : Rows) (l : ℕ) (op : ProductOp) (r a : ℕ) (o : ProductOp) (b : ℕ) (ks : List ℕ)
    → product K rows l op r ≡ refused (UnresolvedTwin a o b ks) → (x : Graded) × Twins K x ks
of_product K rows l op r a o b ks e = let t = product_twins K l op r rows a o b ks e in (t.0, record { are = t.2; several = t.3 })

-- 48
module _ (K : Kinds) (k a : ℕ) (f : Rational) (ks : List ℕ) where
  abbrev Told : Type 0
  Told = (x : Graded) × Twins K x ks

  never : true ≡ false → Told
  never e = absurd (true≢false e)

  of_raised : (e : Rational) → raised K k e ≡ refused (UnresolvedPowerTwin a f ks) → Told
  unfolding raised operand
  of_raised e x = go (eqb (K.grade k) 0) refl (K.dims k) refl
    where
      fit : (d : Dimensions) → K.dims k ≡ Some d → eqb (K.grade k) 0 ≡ true → (w : Option Dimensions) → D.power d e ≡ w → (n : Option ℕ) → neutral_power K k e ≡ n
          → (js : List ℕ) → candidates K (record { dims = D.or_one w; grade = 0 }) ≡ js → Told
      fit d q g None w n v js u = let z : true ≡ false = cc in never z
      fit d q g (Some c) w (Some j) v js u = let z : true ≡ false = cc in never z
      fit d q g (Some c) w None v [] u = let z : true ≡ false = cc in never z
      fit d q g (Some c) w None v (j ∷ []) u = let z : true ≡ false = cc in never z
      fit d q g (Some c) w None v (j ∷ i ∷ js) u =
          let z : ks ≡ j ∷ i ∷ js = cc in
          (record { dims = c; grade = 0 }, record { are = z ∙ sym u; several = rw z (omega arith) })

      go : (t : Bool) → eqb (K.grade k) 0 ≡ t → (u : Option Dimensions) → K.dims k ≡ u → Told
      go false g u q = let z : true ≡ false = cc in never z
      go true g None q = let z : true ≡ false = cc in never z
      go true g (Some d) q = fit d q g (D.power d e) refl (neutral_power K k e) refl (candidates K (record { dims = D.or_one (D.power d e); grade = 0 })) refl

  pub of_power : (code : ℕ) (o : Option Rational) → power K code k o ≡ refused (UnresolvedPowerTwin a f ks) → Told
  unfolding power scaled
  of_power code None x = let z : true ≡ false = cc in never z
  of_power code (Some e) x = go (K.difference k) refl (F.is_one e) refl
    where
      go : (d : Option ℕ) → K.difference k ≡ d → (t : Bool) → F.is_one e ≡ t → Told
      go (Some d) p t q = let z : true ≡ false = cc in never z
      go None p true q = let z : true ≡ false = cc in never z
      go None p false q = of_raised e (rw (p, q) at x)
