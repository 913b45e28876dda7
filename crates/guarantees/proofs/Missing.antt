-- Laws of exponents, dimensions and grades that the lower library does not state, from those that it does. Two of them look into its definitions:
-- what the tests `within` and `is_zero` tell of an exponent that may not be in lowest terms.
-- Assumes nothing.
use Prim.Native.Nat.{ℕ, ◌+◌, ◌*◌, ◌<◌, ◌≤◌}
use mathlib.Core.Path.{◌≡◌, refl, sym, ◌∙◌, ap}
use mathlib.Core.Bool.{Bool, true, false, ◌&&◌, true≢false}
use native.Mathlib.Omega.{arith}
use lib.Dec.{ltb, leb, eqb}
use lib.IntN.{ℤ, pos, negsuc, nat_abs, ◌*ℤ◌, *ℤ-zero, zero-*ℤ}
use lib.ListN.{get_or-replicate}
use borrow.Author.Tests.{ltb-true, lt-ltb, eqb-true}
use Rattle.laws.proofs.Cases.{and_left, and_right}
use Rattle.dimension.specs.Integer.{eq_z, up, twos}
use Rattle.dimension.specs.Fraction as F
use Rattle.dimension.specs.Dimension as D
use Rattle.dimension.specs.Dimension.{exponent, Sound}
use Rattle.dimension.specs.Grade as G
use Rattle.dimension.specs.declared.rational.Rational.{Rational}
use Rattle.dimension.specs.declared.dimensions.Dimensions.{Dimensions}
use Rattle.dimension.specs.declared.grade.ProductOp.TheVariants.{Mul, Div}
use Rattle.std.specs.declared.option.Option.TheVariants.{None, Some}
use Rattle.rules.specs.Catalog.{or_zero}
use Rattle.dimension.proofs.ExponentLaws as E
use Rattle.dimension.proofs.DimensionLaws as L
use Rattle.dimension.proofs.GradeLaws as R
use Rattle.dimension.proofs.BitLaws as B

-- ---- exponents
-- within the limits, the denominator is at least 1
pub within_positive : (e : Rational) → F.within e ≡ true → 0 < e.den
unfolding F.within
within_positive e h =
    ltb-true 0 e.den (and_right (leb (nat_abs e.num) F.limit) (ltb 0 e.den) (and_left (leb (nat_abs e.num) F.limit && ltb 0 e.den) _ h))

eq_z_zero : (z : ℤ) → eq_z z (pos 0) ≡ true → z ≡ pos 0
eq_z_zero (pos n) e = ap pos (eqb-true n 0 e)
eq_z_zero (negsuc n) e = absurd (true≢false (sym e))

-- an exponent of value zero has the numerator 0
pub zero_value : (e : Rational) → F.is_zero e ≡ true → (0 < e.den) × (e.num ≡ pos 0)
unfolding F.is_zero
zero_value e h = (ltb-true 0 e.den (and_left (ltb 0 e.den) _ h), eq_z_zero e.num (and_right (ltb 0 e.den) _ h))

-- a number that so many bits stand for is below half of the patterns
twos_up : (half x : ℕ) → x < half + half → up (twos half x) < half
twos_up half x h = go (ltb x half) refl
  where
    go : (t : Bool) → ltb x half ≡ t → up (twos half x) < half
    go true p = rw p (ltb-true x half p)
    go false p = rw (p, lt-ltb x (half + half) h) (omega arith)

-- an exponent as an image has it: a signed 16-bit numerator over 1 to 32,767
pub read_declared : (x d : ℕ) → x < 65536 → 0 < d → d ≤ 32767 → F.Declared (or_zero (F.answer (twos 32768 x) d))
read_declared x d h p q = let r = E.small_declared (twos 32768 x) d p (B.twos_size 32768 x h) (omega (arith, twos_up 32768 x h)) q in rw r.1 r.2

-- ---- powers
one_at : (k : ℕ) → k < 12 → exponent D.one k ≡ F.zero
one_at k h = get_or-replicate 12 k F.zero F.zero h

-- a power of exponent zero has dimension one, in lowest terms or not
pub power_none : (a : Dimensions) (e : Rational) → Sound a → F.is_zero e ≡ true → D.power a e ≡ Some D.one
power_none a e h z =
    let t = zero_value e z in
    L.power_of a e h.twelve D.one (L.one_sound).twelve
    (λ k l. rw (one_at k l) (E.product_of_law (exponent a k) e F.zero (h.proper k l).reduced.positive t.0 E.zero_proper (across (exponent a k) t.1)))
  where
    across : (x : Rational) → e.num ≡ pos 0 → F.IsProduct x e F.zero
    across x p = zero-*ℤ (pos (x.den * e.den)) ∙ sym (ap (λ (z : ℤ). x.num *ℤ z *ℤ pos 1) p ∙ ap (λ (z : ℤ). z *ℤ pos 1) (*ℤ-zero x.num) ∙ zero-*ℤ (pos 1))

-- every power of dimension one has dimension one
pub one_power : (e : Rational) → 0 < e.den → D.power D.one e ≡ Some D.one
one_power e h =
    L.power_of D.one e (L.one_sound).twelve D.one (L.one_sound).twelve
    (λ k l. rw (one_at k l) (E.product_comm F.zero e ∙ E.product_zero e h))

-- ---- grades
single_same : (a b : ℕ) → Some a ≡ Some b → a ≡ b
single_same a b e = cc

-- times a scalar, on the right and on the left
pub by_scalar : (a b g : ℕ) → a ≤ 3 → b ≡ 0 → G.product Mul a b ≡ Some g → a ≡ g
by_scalar a b g h p e = single_same a g (sym (R.product_scalar a h) ∙ ap (G.product Mul a) (sym p) ∙ e)

pub scalar_by : (a b g : ℕ) → b ≤ 3 → a ≡ 0 → G.product Mul a b ≡ Some g → b ≡ g
scalar_by a b g h p e = by_scalar b a g h p (R.product_comm Mul b a (λ q. absurd (mul_div q)) ∙ e)
  where
    mul_div : Mul ≡ Div → ⊥
    mul_div q = let z : true ≡ false = cc in true≢false z

-- over a scalar, and over nothing else
pub over_scalar : (a b g : ℕ) → a ≤ 3 → b ≤ 3 → G.product Div a b ≡ Some g → (a ≡ g) × (b ≡ 0)
over_scalar a b g h k e = go (eqb b 0) refl (leb a 3) refl (sym (R.product_rule Div a b h k) ∙ e)
  where
    go : (t : Bool) → eqb b 0 ≡ t → (u : Bool) → leb a 3 ≡ u → G.rule Div a b ≡ Some g → (a ≡ g) × (b ≡ 0)
    go true p true q f = (single_same a g (rw (p, q) at f), eqb-true b 0 p)
    go true p false q f = let y : None ≡ Some g = rw (p, q) at f in let z : true ≡ false = cc in absurd (true≢false z)
    go false p u q f = let y : None ≡ Some g = rw p at f in let z : true ≡ false = cc in absurd (true≢false z)
