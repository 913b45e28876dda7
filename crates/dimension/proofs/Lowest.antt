-- What `lowest` means: it has the value that it is given, it is reduced, and a value has one reduced fraction.
-- Assumes nothing.
use mathlib.Core.Path.{◌≡◌, refl, sym, ◌∙◌, ap, subst}
use mathlib.Core.Bool.{Bool, true, false}
use Prim.Native.Nat.{ℕ, zero, suc, ◌*◌, ◌/◌, ◌<◌}
use native.Mathlib.Nat.{mul-div-mul_right, mul_comm, zero-mul, div-mul_cancel, div-one, eq_of_mul-eq-mul_left, mul-one}
use native.Mathlib.Omega.{arith}
use lib.IntN.{ℤ, pos, negsuc, nat_abs, ◌*ℤ◌}
use Rattle.dimension.specs.Gcd.{gcd}
use Rattle.dimension.specs.Fraction.{ratio, lowest, Reduced}
use Rattle.dimension.specs.Integer.{signed}
use Rattle.dimension.specs.declared.rational.Rational.{Rational}
use Rattle.dimension.proofs.Euclid.{gcd_mul, gcd_left, gcd_right, gcd_pos}
use Rattle.dimension.proofs.Parts.{lowest_signed}
use Rattle.dimension.proofs.Signs.{signed_size}

-- two with the same parts are one
pub alike : (a b : Rational) → a.num ≡ b.num → a.den ≡ b.den → a ≡ b
alike a b p q i = record { num = p i; den = q i }

-- an integer is its sign and its size
abbrev negative : ℤ → Bool
negative (pos n) = false
negative (negsuc n) = true

whole : (z : ℤ) → signed (negative z) (nat_abs z) ≡ z
whole (pos n) = refl
whole (negsuc n) = refl

signed_times : (t : Bool) (n k : ℕ) → signed t n *ℤ pos k ≡ signed t (n * k)
signed_times true zero k = rw (zero-mul k)
signed_times true (suc n) k = refl
signed_times false n k = refl

module _ (t : Bool) (n d k : ℕ) (h : 0 < k) where
  g_scale : gcd (n * k) (d * k) ≡ gcd n d * k
  g_scale = rw (mul_comm n k, mul_comm d k, gcd_mul k n d h, mul_comm k (gcd n d))

  signed_scale : lowest (signed t (n * k)) (d * k) ≡ lowest (signed t n) d
  signed_scale =
      sym (lowest_signed t (n * k) (d * k) (gcd n d * k) (sym g_scale))
      ∙ alike _ _ (ap (signed t) (mul-div-mul_right n (gcd n d) h)) (mul-div-mul_right d (gcd n d) h)
      ∙ lowest_signed t n d (gcd n d) refl

-- a factor of both parts changes nothing
pub lowest_scale : (z : ℤ) (d k : ℕ) → 0 < k → lowest (z *ℤ pos k) (d * k) ≡ lowest z d
lowest_scale z d k h =
    subst (λ (x : ℤ). lowest (x *ℤ pos k) (d * k) ≡ lowest x d) (whole z)
    (ap (λ (x : ℤ). lowest x (d * k)) (signed_times (negative z) (nat_abs z) k) ∙ signed_scale (negative z) (nat_abs z) d k h)

-- one number has one lowest form, however it is written
pub lowest_same : (x y : ℤ) (n m : ℕ) → 0 < n → 0 < m → x *ℤ pos m ≡ y *ℤ pos n → lowest x n ≡ lowest y m
lowest_same x y n m h k e =
    sym (lowest_scale x n m k) ∙ ap (λ (z : ℤ). lowest z (n * m)) e ∙ ap (lowest (y *ℤ pos n)) (mul_comm n m) ∙ lowest_scale y m n h

module _ (t : Bool) (n d : ℕ) where
  abbrev g : ℕ
  g = gcd n d

  abbrev low : Rational
  low = ratio (signed t (n / g)) (d / g)

  num_back : n / g * g ≡ n
  num_back = div-mul_cancel g (gcd_left n d)

  den_back : d / g * g ≡ d
  den_back = div-mul_cancel g (gcd_right n d)

  low_value : low.num *ℤ pos d ≡ signed t n *ℤ pos low.den
  low_value =
      let e : n / g * d ≡ n * (d / g) =
      cross (n / g) (d / g) g n d num_back den_back
      in
      signed_times t (n / g) d ∙ ap (signed t) e ∙ sym (signed_times t n (d / g))
    where
      cross : (a c g n d : ℕ) → a * g ≡ n → c * g ≡ d → a * d ≡ n * c
      cross a c g n d p q = rw (← p, ← q) (omega arith)

  low_reduced : 0 < d → Reduced low
  low_reduced h =
      record {
        coprime = rw (signed_size t (n / g)) (divided (n / g) (d / g) g n d (gcd_pos n d h) refl num_back den_back);
        positive = pos_left (d / g) g (rw den_back h);
      }
    where
      divided : (a c g n d : ℕ) → 0 < g → gcd n d ≡ g → a * g ≡ n → c * g ≡ d → gcd a c ≡ 1
      divided a c g n d h e p q =
          let s : g * a ≡ n = omega arith in
          let t : g * c ≡ d = omega arith in
          eq_of_mul-eq-mul_left g h (gcd a c) 1
          (sym (gcd_mul g a c h) ∙ ap (λ (k : ℕ). gcd k (g * c)) s ∙ ap (gcd n) t ∙ e ∙ sym (mul-one g))

      pos_left : (a b : ℕ) → 0 < a * b → 0 < a
      pos_left zero b h = rw (zero-mul b) at h
      pos_left (suc a) b h = omega arith

-- `lowest z d` is z / d
pub lowest_value : (z : ℤ) (d : ℕ) → (lowest z d).num *ℤ pos d ≡ z *ℤ pos (lowest z d).den
lowest_value z d =
    subst (λ (x : ℤ). (lowest x d).num *ℤ pos d ≡ x *ℤ pos (lowest x d).den) (whole z)
    (subst (λ (a : Rational). a.num *ℤ pos d ≡ signed (negative z) (nat_abs z) *ℤ pos a.den) (lowest_signed (negative z) (nat_abs z) d _ refl)
    (low_value (negative z) (nat_abs z) d))

pub lowest_reduced : (z : ℤ) (d : ℕ) → 0 < d → Reduced (lowest z d)
lowest_reduced z d h =
    subst (λ (x : ℤ). Reduced (lowest x d)) (whole z)
    (subst Reduced (lowest_signed (negative z) (nat_abs z) d _ refl) (low_reduced (negative z) (nat_abs z) d h))

-- a reduced fraction is its own lowest form
pub fixed : (a : Rational) → Reduced a → lowest a.num a.den ≡ a
fixed a h =
    let t = negative a.num in
    let n = nat_abs a.num in
    ap (λ (x : ℤ). lowest x a.den) (sym (whole a.num))
    ∙ sym (lowest_signed t n a.den 1 (sym h.coprime))
    ∙ alike _ a (ap (signed t) (div-one n) ∙ whole a.num) (div-one a.den)

-- two reduced fractions of one value are one
pub unique : (a b : Rational) → Reduced a → Reduced b → a.num *ℤ pos b.den ≡ b.num *ℤ pos a.den → a ≡ b
unique a b h k e = sym (fixed a h) ∙ lowest_same a.num b.num a.den b.den h.positive k.positive e ∙ fixed b k
