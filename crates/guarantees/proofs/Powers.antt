-- The kind that a power is: it has exactly the power's dimensions. Assumes nothing.
use Prim.Native.Nat.{ℕ, ◌<◌}
use mathlib.Core.Path.{◌≡◌, refl, ◌∙◌, ap}
use mathlib.Core.Bool.{Bool, true, false, cond, ◌||◌, true≢false}
use mathlib.Core.List.{List, [], ◌∷◌}
use Rattle.std.specs.declared.option.Option.{Option}
use Rattle.std.specs.declared.option.Option.TheVariants.{None, Some}
use lib.Dec.{eqb}
use borrow.Author.Tests.{eqb-true}
use Rattle.laws.specs.Out.{given}
use Rattle.dimension.specs.Fraction as F
use Rattle.dimension.specs.Dimension as D
use Rattle.dimension.specs.declared.rational.Rational.{Rational}
use Rattle.dimension.specs.declared.dimensions.Dimensions.{Dimensions}
use Rattle.dimension.proofs.DimensionLaws as L
use Rattle.rules.specs.Kinds.{Kinds, Rows, Graded, fits, candidates}
use Rattle.rules.specs.Arithmetic.{operand, scaled, neutral_power, raised, power}
use Rattle.guarantees.specs.Premises.{Guaranteed, Scalars}
use Rattle.guarantees.proofs.Missing.{power_none, one_power}
use Rattle.guarantees.proofs.Picks.{head_passes}
use Rattle.guarantees.proofs.Carried.{fits_tells}

pub never : {A : Type 0} → true ≡ false → A
never e = absurd (true≢false e)

-- kind j has the dimensions of a to the power e, and is a scalar where the dimensionless kind is
pub record Power (K : Kinds) (a : Dimensions) (e : Rational) (j : ℕ) : Type 0 where
  pub value : Dimensions
  pub answers : D.power a e ≡ Some value
  pub dims : K.dims j ≡ Some value
  pub grade : Scalars K → K.grade j ≡ 0

module _ (K : Kinds) (rows : Rows) (c : Guaranteed K rows) where
  -- exponent zero, or the dimensionless kind
  neutral_power_law : (e : Rational) (k j : ℕ) (a : Dimensions) → 0 < e.den → K.dims k ≡ Some a → neutral_power K k e ≡ Some j → Power K a e j
  unfolding neutral_power
  neutral_power_law e k j a h q f = go K.dimensionless refl
    where
      one : (o : ℕ) → K.dimensionless ≡ Some o → o ≡ j → D.power a e ≡ Some D.one → Power K a e j
      one o p z y = rw (← z) (record { value = D.one; answers = y; dims = (c.dimensionless o p).dims; grade = λ s. s.dimensionless o p })

      at : (o : ℕ) → K.dimensionless ≡ Some o → (t : Bool) → F.is_zero e ≡ t → (v : Bool) → eqb k o ≡ v → cond (t || v) (Some o) None ≡ Some j → Power K a e j
      at o p true t v u g = let z : o ≡ j = cc in one o p z (power_none a e (L.declared_sound a (c.declared k a q)) t)
      at o p false t true u g =
          let w : a ≡ D.one = cc (eqb-true k o u, (c.dimensionless o p).dims) in
          let z : o ≡ j = cc in
          one o p z (rw w (one_power e h))
      at o p false t false u g = let z : true ≡ false = cc in never z

      go : (o : Option ℕ) → K.dimensionless ≡ o → Power K a e j
      go None p = let z : true ≡ false = cc in never z
      go (Some o) p = at o p (F.is_zero e) refl (eqb k o) refl (rw p at f)

  abbrev to : Option Dimensions → Graded
  to w = record { dims = D.or_one w; grade = 0 }

  abbrev Raised : Rational → ℕ → ℕ → Type 0
  Raised e k j = (a : Dimensions) × (K.dims k ≡ Some a) × Power K a e j

  pub raised_power : (e : Rational) (k j : ℕ) → 0 < e.den → raised K k e ≡ given j → Raised e k j
  unfolding raised operand
  raised_power e k j h x = go (eqb (K.grade k) 0) refl (K.dims k) refl
    where
      fit : (a : Dimensions) → K.dims k ≡ Some a → eqb (K.grade k) 0 ≡ true → (w : Option Dimensions) → D.power a e ≡ w → (f : Option ℕ) → neutral_power K k e ≡ f
          → (ks : List ℕ) → candidates K (to w) ≡ ks → Raised e k j
      fit a q g None w f v ks u = let z : true ≡ false = cc in never z
      fit a q g (Some b) w (Some m) v ks u = let z : m ≡ j = cc in (a, q, neutral_power_law e k j a h q (v ∙ ap Some z))
      fit a q g (Some b) w None v [] u = let z : true ≡ false = cc in never z
      fit a q g (Some b) w None v (m ∷ []) u =
          let z : m ≡ j = cc in
          let y = (fits_tells K (to (Some b)) m (head_passes (fits K (to (Some b))) K.count m [] u).0).0 in
          (a, q, rw (← z) (record { value = b; answers = w; dims = y.dims; grade = λ s. y.grade }))
      fit a q g (Some b) w None v (m ∷ i ∷ ks) u = let z : true ≡ false = cc in never z

      go : (t : Bool) → eqb (K.grade k) 0 ≡ t → (u : Option Dimensions) → K.dims k ≡ u → Raised e k j
      go false g u q = let z : true ≡ false = cc in never z
      go true g None q = let z : true ≡ false = cc in never z
      go true g (Some a) q = fit a q g (D.power a e) refl (neutral_power K k e) refl (candidates K (to (D.power a e))) refl

  -- "exponent one gives the kind", and any other raises it
  pub answered_power : (code k j : ℕ) (e : Rational) → 0 < e.den → F.is_one e ≡ false → power K code k (Some e) ≡ given j → Raised e k j
  unfolding power scaled
  answered_power code k j e h o x = go (K.difference k) refl
    where
      go : (d : Option ℕ) → K.difference k ≡ d → Raised e k j
      go (Some d) p = let z : true ≡ false = cc in never z
      go None p = raised_power e k j h (rw (p, o) at x)
