-- Where what kinds and rows name is in range, every sum, product and power is, and every kind that a formula holds. Assumes nothing.
use Prim.Native.Nat.{ℕ, ◌<◌}
use mathlib.Core.Path.{◌≡◌, refl, ◌∙◌, ap}
use mathlib.Core.Bool.{Bool, true, false, cond, ◌||◌}
use mathlib.Core.List.{List, [], ◌∷◌}
use Rattle.std.specs.declared.option.Option.{Option}
use Rattle.std.specs.declared.option.Option.TheVariants.{None, Some}
use lib.Dec.{ltb, eqb}
use lib.IntN.{pos, neg_ℤ}
use borrow.Author.Tests.{ltb-true}
use Rattle.laws.specs.Out.{given}
use Rattle.dimension.specs.Fraction as F
use Rattle.dimension.specs.Dimension as D
use Rattle.dimension.specs.declared.rational.Rational.{Rational}
use Rattle.dimension.specs.declared.dimensions.Dimensions.{Dimensions}
use Rattle.dimension.specs.declared.grade.ProductOp.TheVariants.{Mul, Div, Dot, Wedge}
use Rattle.rules.specs.Kinds.{Kinds, Rows, Graded, fits, candidates}
use Rattle.rules.specs.Refusal.{Answer}
use Rattle.rules.specs.Arithmetic.{Sum, Add, Sub, summed, multiplied, indexed, operand, sum_by, sum, scaled, neutral_power, raised, power, combine}
use Rattle.rules.specs.Formula.{Unary, exact, inexact, absolute, Binary, combined, compared, Term, Number, Kind, with_number, two_kinds, one_kind, unary_term, binary_term, kind_term, terms}
use Rattle.guarantees.specs.Premises.{Guaranteed}
use Rattle.guarantees.proofs.Picks.{head_passes}
use Rattle.guarantees.proofs.ProductLaws.{Within, product_in}
use Rattle.guarantees.proofs.Powers.{never}
use Rattle.guarantees.proofs.Calculated.{agreed, scaled_tells}
use Rattle.guarantees.proofs.Terms.{made}
use Rattle.guarantees.proofs.Reached.{Keeps}

module _ (K : Kinds) where
  abbrev pub in_range : Term → Type 0
  in_range Number = Unit {0}
  in_range (Kind k) = k < K.count

  module _ (rows : Rows) (w : Within K rows) where
    pub sum_below : (t : Sum) (l r k : ℕ) → l < K.count → r < K.count → sum K t l r ≡ given k → k < K.count
    unfolding sum sum_by
    sum_below t l r k hl hr e = go t (K.difference l) refl (K.difference r) refl e
      where
        go : (t : Sum) (d : Option ℕ) → K.difference l ≡ d → (f : Option ℕ) → K.difference r ≡ f → sum_by t d f l r ≡ given k → k < K.count
        go Sub (Some d) p (Some f) q e = rw (← (agreed l r d k e).1) (w.difference l d p)
        go Add (Some d) p (Some f) q e = let z : true ≡ false = cc in never z
        go t (Some d) p None q e = rw (← (agreed d r l k e).1) hl
        go Add None p (Some f) q e = rw (← (agreed f l r k e).1) hr
        go Sub None p (Some f) q e = let z : true ≡ false = cc in never z
        go t None p None q e = rw (← (agreed l r l k e).1) hl

    neutral_below : (k m : ℕ) (e : Rational) → neutral_power K k e ≡ Some m → m < K.count
    unfolding neutral_power
    neutral_below k m e f = go K.dimensionless refl
      where
        at : (o : ℕ) → K.dimensionless ≡ Some o → (t : Bool) → cond t (Some o) None ≡ Some m → m < K.count
        at o p true g = let z : o ≡ m = cc in rw (← z) (w.dimensionless o p)
        at o p false g = let z : true ≡ false = cc in never z

        go : (o : Option ℕ) → K.dimensionless ≡ o → m < K.count
        go None p = let z : true ≡ false = cc in never z
        go (Some o) p = at o p (F.is_zero e || eqb k o) (rw p at f)

    abbrev to : Option Dimensions → Graded
    to w = record { dims = D.or_one w; grade = 0 }

    raised_below : (k m : ℕ) (e : Rational) → raised K k e ≡ given m → m < K.count
    unfolding raised operand
    raised_below k m e x = go (eqb (K.grade k) 0) refl (K.dims k) refl
      where
        fit : (a : Dimensions) → K.dims k ≡ Some a → eqb (K.grade k) 0 ≡ true → (w : Option Dimensions) → D.power a e ≡ w → (f : Option ℕ) → neutral_power K k e ≡ f
            → (ks : List ℕ) → candidates K (to w) ≡ ks → m < K.count
        fit a q g None w f v ks u = let z : true ≡ false = cc in never z
        fit a q g (Some b) w (Some j) v ks u = let z : j ≡ m = cc in neutral_below k m e (v ∙ ap Some z)
        fit a q g (Some b) w None v [] u = let z : true ≡ false = cc in never z
        fit a q g (Some b) w None v (j ∷ []) u = let z : j ≡ m = cc in rw (← z) (head_passes (fits K (to (Some b))) K.count j [] u).1
        fit a q g (Some b) w None v (j ∷ i ∷ ks) u = let z : true ≡ false = cc in never z

        go : (t : Bool) → eqb (K.grade k) 0 ≡ t → (u : Option Dimensions) → K.dims k ≡ u → m < K.count
        go false g u q = let z : true ≡ false = cc in never z
        go true g None q = let z : true ≡ false = cc in never z
        go true g (Some a) q = fit a q g (D.power a e) refl (neutral_power K k e) refl (candidates K (to (D.power a e))) refl

    pub power_below : (code k m : ℕ) (e : Option Rational) → k < K.count → power K code k e ≡ given m → m < K.count
    unfolding power scaled
    power_below code k m None h x = let z : true ≡ false = cc in never z
    power_below code k m (Some e) h x = go (K.difference k) refl (F.is_one e) refl
      where
        go : (d : Option ℕ) → K.difference k ≡ d → (t : Bool) → F.is_one e ≡ t → m < K.count
        go (Some d) p t q = let z : true ≡ false = cc in never z
        go None p true q = let z : k ≡ m = cc in rw (← z) h
        go None p false q = raised_below k m e (rw (p, q) at x)

    scaled_below : (code k m : ℕ) → k < K.count → scaled K code k ≡ given m → m < K.count
    scaled_below code k m h e = rw (← (scaled_tells K code k m e).1) h

    number_below : (b : Binary) (k m : ℕ) (a : Answer ℕ) → k < K.count → (a ≡ given m → m < K.count) → with_number K b k a ≡ given m → m < K.count
    unfolding with_number
    number_below (combined (multiplied Mul)) k m a h f e = scaled_below 4 k m h e
    number_below (combined (multiplied Div)) k m a h f e = f e
    number_below (combined (multiplied Dot)) k m a h f e = let z : true ≡ false = cc in never z
    number_below (combined (multiplied Wedge)) k m a h f e = let z : true ≡ false = cc in never z
    number_below (combined (summed t)) k m a h f e = let z : true ≡ false = cc in never z
    number_below compared k m a h f e = let z : true ≡ false = cc in never z

    two_below : (b : Binary) (l r k : ℕ) → l < K.count → r < K.count → two_kinds K rows b l r ≡ given k → k < K.count
    unfolding two_kinds combine
    two_below (combined (summed t)) l r k hl hr e = sum_below t l r k hl hr e
    two_below (combined (multiplied op)) l r k hl hr e = product_in K rows w l r k hl hr op e
    two_below compared l r k hl hr e = rw (← (agreed l r l k e).1) hl

    abbrev inverted : ℕ → Answer ℕ
    inverted k = power K 5 k (Some (F.ratio (neg_ℤ (pos 1)) 1))

    binary_below : (b : Binary) (x y a : Term) → in_range x → in_range y → binary_term K rows b x y ≡ given a → in_range a
    unfolding binary_term
    binary_below b Number Number a hx hy e = let z : Number ≡ a = cc in rw (← z) tt
    binary_below b (Kind l) (Kind r) a hx hy e = let h = made (two_kinds K rows b l r) a e in rw (← h.2) (two_below b l r h.0 hx hy h.1)
    binary_below b (Kind k) Number a hx hy e =
        let h = made (with_number K b k (scaled K 5 k)) a e in
        rw (← h.2) (number_below b k h.0 (scaled K 5 k) hx (scaled_below 5 k h.0 hx) h.1)
    binary_below b Number (Kind k) a hx hy e =
        let h = made (with_number K b k (inverted k)) a e in
        rw (← h.2) (number_below b k h.0 (inverted k) hy (power_below 5 k h.0 (Some (F.ratio (neg_ℤ (pos 1)) 1)) hy) h.1)

    unary_below : (u : Unary) (x a : Term) → in_range x → unary_term K u x ≡ given a → in_range a
    unfolding unary_term one_kind
    unary_below u Number a h e = let z : Number ≡ a = cc in rw (← z) tt
    unary_below u (Kind k) a h e = let d = made (one_kind K u k) a e in rw (← d.2) (go u d.0 d.1)
      where
        go : (u : Unary) (m : ℕ) → one_kind K u k ≡ given m → m < K.count
        go (exact f) m x = power_below 8 k m (Some f) h x
        go inexact m x = power_below 9 k m None h x
        go absolute m x = scaled_below 10 k m h x

    kind_below : (k : ℕ) (a : Term) → kind_term K k ≡ given a → in_range a
    unfolding kind_term indexed
    kind_below k a e = go (ltb k K.count) refl
      where
        go : (t : Bool) → ltb k K.count ≡ t → in_range a
        go true p = let z : Kind k ≡ a = cc in rw (← z) (ltb-true k K.count p)
        go false p = let z : true ≡ false = cc in never z

    pub in_range_law : Keeps (terms K rows) in_range
    unfolding terms
    in_range_law = record { number = tt; kind = kind_below; unary = unary_below; binary = binary_below }

-- what compilation guarantees is in range
pub guaranteed_within : (K : Kinds) (rows : Rows) → Guaranteed K rows → Within K rows
guaranteed_within K rows c = record {
  difference = λ k d e. (c.difference k d e).below;
  rate_of = λ k t e. (c.rate_of k t e).below.1;
  rate = λ t k e. (c.rate_of k t (c.rate k t e)).below.0;
  dimensionless = λ o e. (c.dimensionless o e).below;
  row = λ l op r k e. (c.row l op r k e).below;
}
