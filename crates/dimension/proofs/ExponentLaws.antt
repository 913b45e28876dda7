-- The laws of exponents. A sum, difference, product or opposite that is answered has the value that ℤ says, cross-multiplied, in lowest terms within
-- the limits; it is answered wherever there is such a fraction; one value has one such fraction. Order and grouping do not matter, opposites cancel.
-- What a catalog declares stays within the limits in one sum or difference. Assumes nothing.
use mathlib.Core.Path.{◌≡◌, refl, sym, ◌∙◌, ap, subst}
use mathlib.Core.Bool.{Bool, true, false, cond, ◌&&◌}
use Prim.Native.Nat.{ℕ, zero, suc, ◌+◌, ◌*◌, ◌/◌, ◌<◌, ◌≤◌, zero-le}
use native.Mathlib.Nat.{mul-pos, mul-le-mul, div-le_self, zero-mul, mul-zero, not-suc-le-zero, le_trans}
use native.Mathlib.Nat as N
use native.Mathlib.Omega.{arith}
use borrow.Author.Tests.{leb-true, ltb-true, le-leb, lt-ltb, eqb-true, eq-eqb}
use lib.Dec.{leb, ltb, eqb}
use lib.IntN.{ℤ, pos, negsuc, neg_ℤ, nat_abs, ◌+ℤ◌, ◌-ℤ◌, ◌*ℤ◌, +ℤ_comm, *ℤ_comm, neg_ℤ-neg_ℤ}
use Rattle.laws.proofs.Cases.{and_left, and_right}
use Rattle.dimension.specs.Gcd.{gcd, euclid}
use Rattle.dimension.specs.Integer.{eq_z, up, down}
use Rattle.dimension.specs.Fraction as F
use Rattle.dimension.specs.Fraction.{ratio, lowest, limit, within, limited, answer, sum, difference, product, opposite, equal, is_one, is_zero, declared, IsSum, IsDifference, IsProduct, IsOpposite, SameValue, Reduced, Proper, Declared}
use Rattle.dimension.specs.declared.rational.Rational.{Rational}
use Rattle.std.specs.declared.option.Option.TheVariants.{None, Some}
use Rattle.dimension.proofs.Integers.{diff, is, nat, plus, times, scale, turn, same, across, size_neg, size_sum, size_difference, size_product}
use Rattle.dimension.proofs.Lowest.{alike, lowest_scale, lowest_same, lowest_value, lowest_reduced, fixed, unique}
use Rattle.dimension.proofs.Parts.{answer_zero}

-- ---- what an answer tells, and when it is given
chosen : (t : Bool) (a x : Rational) → cond t (Some a) None ≡ Some x → (a ≡ x) × (t ≡ true)
chosen true a x e = (cc, refl)
chosen false a x e = (cc, cc)

limited_is : (a x : Rational) → limited a ≡ Some x → (a ≡ x) × (within a ≡ true)
unfolding limited
limited_is a x e = chosen (within a) a x e

within_of : (a : Rational) → Proper a → within a ≡ true
unfolding within
within_of a h = simp (le-leb (nat_abs a.num) limit h.num, lt-ltb 0 a.den h.reduced.positive, le-leb a.den limit h.den)

proper_of : (a : Rational) → Reduced a → within a ≡ true → Proper a
unfolding within
proper_of a h e =
    let n = leb (nat_abs a.num) limit in
    let p = ltb 0 a.den in
    record {
      reduced = h;
      num = leb-true (nat_abs a.num) limit (and_left n p (and_left (n && p) _ e));
      den = leb-true a.den limit (and_right (n && p) _ e);
    }

-- nothing is answered over zero
pub answer_positive : (n : ℤ) (d : ℕ) (r : Rational) → answer n d ≡ Some r → 0 < d
answer_positive n zero r e = let z : ◌≡◌ {A = ℕ} 0 1 = cc (answer_zero n) in absurd (omega arith)
answer_positive n (suc d) r e = omega arith

-- the answer is n / d
pub answer_value : (n : ℤ) (d : ℕ) (r : Rational) → answer n d ≡ Some r → r.num *ℤ pos d ≡ n *ℤ pos r.den
unfolding answer
answer_value n d r e =
    subst (λ (a : Rational). a.num *ℤ pos d ≡ n *ℤ pos a.den) (limited_is (lowest n d) r e).0 (lowest_value n d)

-- in lowest terms, within the limits
pub answer_proper : (n : ℤ) (d : ℕ) (r : Rational) → answer n d ≡ Some r → Proper r
unfolding answer
answer_proper n d r e =
    let t = limited_is (lowest n d) r e in
    subst Proper t.0 (proper_of (lowest n d) (lowest_reduced n d (answer_positive n d r e)) t.1)

-- and it is given wherever there is one, so `None` is said only where there is none
pub answer_of_law : (n : ℤ) (d : ℕ) (r : Rational) → 0 < d → Proper r → r.num *ℤ pos d ≡ n *ℤ pos r.den → answer n d ≡ Some r
unfolding answer limited
answer_of_law n d r h p e =
    let l : lowest n d ≡ r = lowest_same n r.num d r.den h p.reduced.positive (sym e) ∙ fixed r p.reduced in
    rw (l, within_of r p)

-- two fractions in lowest terms of one value are one
pub same_value : (a b : Rational) → Reduced a → Reduced b → SameValue a b → a ≡ b
same_value a b h k e = unique a b h k e

-- a fraction in lowest terms within the limits is its own answer
pub answer_self : (a : Rational) → Proper a → answer a.num a.den ≡ Some a
answer_self a h = answer_of_law a.num a.den a h.reduced.positive h refl

-- ---- the values. SI Brochure, 9th edition, 2.3.3: exponents of a product add, of a quotient subtract, of a power multiply
module _ (a b r : Rational) where
  pub sum_value : sum a b ≡ Some r → IsSum a b r
  unfolding sum
  sum_value e = answer_value _ _ r e

  pub difference_value : difference a b ≡ Some r → IsDifference a b r
  unfolding difference
  difference_value e = answer_value _ _ r e

  pub product_value : product a b ≡ Some r → IsProduct a b r
  unfolding product
  product_value e = answer_value _ _ r e

  pub sum_proper : sum a b ≡ Some r → Proper r
  unfolding sum
  sum_proper e = answer_proper _ _ r e

  pub difference_proper : difference a b ≡ Some r → Proper r
  unfolding difference
  difference_proper e = answer_proper _ _ r e

  pub product_proper : product a b ≡ Some r → Proper r
  unfolding product
  product_proper e = answer_proper _ _ r e

  module _ (h : 0 < a.den) (k : 0 < b.den) (p : Proper r) where
    pub sum_of : IsSum a b r → sum a b ≡ Some r
    unfolding sum
    sum_of e = answer_of_law _ _ r (mul-pos h k) p e

    pub difference_of_law : IsDifference a b r → difference a b ≡ Some r
    unfolding difference
    difference_of_law e = answer_of_law _ _ r (mul-pos h k) p e

    pub product_of_law : IsProduct a b r → product a b ≡ Some r
    unfolding product
    product_of_law e = answer_of_law _ _ r (mul-pos h k) p e

module _ (a r : Rational) where
  pub opposite_value : opposite a ≡ Some r → IsOpposite a r
  unfolding opposite
  opposite_value e = answer_value _ _ r e

  pub opposite_proper : opposite a ≡ Some r → Proper r
  unfolding opposite
  opposite_proper e = answer_proper _ _ r e

-- ---- opposites
abbrev pub minus : Rational → Rational
minus a = ratio (neg_ℤ a.num) a.den

minus_reduced : (a : Rational) → Reduced a → Reduced (minus a)
minus_reduced a h = record { coprime = rw (size_neg a.num) h.coprime; positive = h.positive }

pub minus_proper : (a : Rational) → Proper a → Proper (minus a)
minus_proper a h = record { reduced = minus_reduced a h.reduced; num = rw (size_neg a.num) h.num; den = h.den }

-- every exponent has one
pub opposite_is : (a : Rational) → Proper a → opposite a ≡ Some (minus a)
unfolding opposite
opposite_is a h = answer_self (minus a) (minus_proper a h)

-- and the opposite's opposite is the exponent
pub opposite_twice : (a : Rational) → Proper a → opposite (minus a) ≡ Some a
opposite_twice a h = opposite_is (minus a) (minus_proper a h) ∙ ap (λ (z : ℤ). Some (ratio z a.den)) (neg_ℤ-neg_ℤ a.num)

-- a difference adds the opposite
pub difference_sum : (a b : Rational) → difference a b ≡ sum a (minus b)
unfolding difference sum
difference_sum a b = ap (λ (z : ℤ). answer z (a.den * b.den)) (ring a.num b.num a.den b.den)
  where
    ring : (n m : ℤ) (d e : ℕ) → n *ℤ pos e -ℤ m *ℤ pos d ≡ n *ℤ pos e +ℤ neg_ℤ m *ℤ pos d
    ring n m d e = rw (is n, is m) (simp (scale, plus, turn) (same _ _ _ _ (omega arith)))

-- ---- order and grouping do not matter
both : (n m : ℤ) (d e : ℕ) → n ≡ m → d ≡ e → answer n d ≡ answer m e
both n m d e p q = cc

pub sum_comm : (a b : Rational) → sum a b ≡ sum b a
unfolding sum
sum_comm a b = both _ _ _ _ (+ℤ_comm (a.num *ℤ pos b.den) (b.num *ℤ pos a.den)) (N.mul_comm a.den b.den)

pub product_comm : (a b : Rational) → product a b ≡ product b a
unfolding product
product_comm a b = both _ _ _ _ (*ℤ_comm a.num b.num) (N.mul_comm a.den b.den)

factors : (n m : ℕ) → 0 < n * m → (0 < n) × (0 < m)
factors zero m h = absurd (not-suc-le-zero (rw (zero-mul m) at h))
factors (suc n) zero h = absurd (not-suc-le-zero (rw (mul-zero (suc n)) at h))
factors (suc n) (suc m) h = (omega arith, omega arith)

-- two fractions of one value, by their parts
across_value : (r z : ℤ) (n t : ℕ) → r *ℤ pos n ≡ z *ℤ pos t → up r * n + down z * t ≡ up z * t + down r * n
across_value r z n t h =
    let f : diff (up r * n) (down r * n) ≡ diff (up z * t) (down z * t) = simp scale at (rw (is r, is z) at h) in
    across (up r * n) (down r * n) (up z * t) (down z * t) f

-- and with a third added, or multiplied
ring_sum : (r z m : ℤ) (n t e : ℕ) → r *ℤ pos n ≡ z *ℤ pos t → (r *ℤ pos e +ℤ m *ℤ pos t) *ℤ pos (n * e) ≡ (z *ℤ pos e +ℤ m *ℤ pos n) *ℤ pos (t * e)
ring_sum r z m n t e h =
    let k : up r * n + down z * t ≡ up z * t + down r * n = across_value r z n t h in
    rw (is r, is z, is m)
    (simp (scale, plus) (same _ _ _ _ (omega (arith, ap (λ (l : ℕ). l * (e * e)) k))))

ring_product : (r z m : ℤ) (n t e : ℕ) → r *ℤ pos n ≡ z *ℤ pos t → r *ℤ m *ℤ pos (n * e) ≡ z *ℤ m *ℤ pos (t * e)
ring_product r z m n t e h =
    let k : up r * n + down z * t ≡ up z * t + down r * n = across_value r z n t h in
    rw (is r, is z, is m)
    (simp (scale, times) (same _ _ _ _ (omega (arith, ap (λ (l : ℕ). l * (up m * e)) k, ap (λ (l : ℕ). l * (down m * e)) k))))

-- what was reduced on the way counts as what it was reduced from
module _ (n : ℤ) (d : ℕ) (x c : Rational) (e : answer n d ≡ Some x) (h : 0 < c.den) where
  d_positive : 0 < d * c.den
  d_positive = mul-pos (answer_positive n d x e) h

  x_positive : 0 < x.den * c.den
  x_positive = mul-pos (answer_proper n d x e).reduced.positive h

  sum_after : sum x c ≡ answer (n *ℤ pos c.den +ℤ c.num *ℤ pos d) (d * c.den)
  unfolding answer sum
  sum_after = ap limited (lowest_same _ _ _ _ x_positive d_positive (ring_sum x.num n c.num d x.den c.den (answer_value n d x e)))

  product_after : product x c ≡ answer (n *ℤ c.num) (d * c.den)
  unfolding answer product
  product_after = ap limited (lowest_same _ _ _ _ x_positive d_positive (ring_product x.num n c.num d x.den c.den (answer_value n d x e)))

turned : (a b c : ℕ) → a * b * c ≡ b * c * a
turned a b c = omega arith

pub sum_assoc : (a b c x y : Rational) → sum a b ≡ Some x → sum b c ≡ Some y → sum x c ≡ sum a y
unfolding sum
sum_assoc a b c x y p q =
    let h = factors a.den b.den (answer_positive _ _ x p) in
    let k = factors b.den c.den (answer_positive _ _ y q) in
    sum_after _ _ x c p k.1
    ∙ both _ _ _ _ (ring a.num b.num c.num a.den b.den c.den) (turned a.den b.den c.den)
    ∙ sym (sum_after _ _ y a q h.0)
    ∙ sum_comm y a
  where
    ring : (n m k : ℤ) (a b c : ℕ) → (n *ℤ pos b +ℤ m *ℤ pos a) *ℤ pos c +ℤ k *ℤ pos (a * b) ≡ (m *ℤ pos c +ℤ k *ℤ pos b) *ℤ pos a +ℤ n *ℤ pos (b * c)
    ring n m k a b c = rw (is n, is m, is k) (simp (scale, plus) (same _ _ _ _ (omega arith)))

pub product_assoc : (a b c x y : Rational) → product a b ≡ Some x → product b c ≡ Some y → product x c ≡ product a y
unfolding product
product_assoc a b c x y p q =
    let h = factors a.den b.den (answer_positive _ _ x p) in
    let k = factors b.den c.den (answer_positive _ _ y q) in
    product_after _ _ x c p k.1
    ∙ both _ _ _ _ (ring a.num b.num c.num) (turned a.den b.den c.den)
    ∙ sym (product_after _ _ y a q h.0)
    ∙ product_comm y a
  where
    ring : (n m k : ℤ) → n *ℤ m *ℤ k ≡ m *ℤ k *ℤ n
    ring n m k = rw (is n, is m, is k) (simp times (same _ _ _ _ (omega arith)))

-- ---- zero and one
pub zero_proper : Proper F.zero
unfolding gcd euclid
zero_proper = record { reduced = record { coprime = refl; positive = omega arith }; num = omega arith; den = omega arith }

pub one_proper : Proper F.one
unfolding gcd euclid
one_proper = record { reduced = record { coprime = refl; positive = omega arith }; num = omega arith; den = omega arith }

pub sum_zero : (a : Rational) → Proper a → sum a F.zero ≡ Some a
sum_zero a h = sum_of a F.zero a h.reduced.positive (omega arith) h (ring a.num a.den)
  where
    ring : (n : ℤ) (d : ℕ) → n *ℤ pos (d * 1) ≡ (n *ℤ pos 1 +ℤ pos (0 * d)) *ℤ pos d
    ring n d = rw (is n, nat (0 * d)) (simp (scale, plus) (same _ _ _ _ (omega arith)))

pub product_one : (a : Rational) → Proper a → product a F.one ≡ Some a
product_one a h = product_of_law a F.one a h.reduced.positive (omega arith) h (ring a.num a.den)
  where
    ring : (n : ℤ) (d : ℕ) → n *ℤ pos (d * 1) ≡ n *ℤ pos 1 *ℤ pos d
    ring n d = rw (is n) (simp scale (same _ _ _ _ (omega arith)))

pub product_zero : (a : Rational) → 0 < a.den → product a F.zero ≡ Some F.zero
product_zero a h = product_of_law a F.zero F.zero h (omega arith) zero_proper (ring a.num a.den)
  where
    ring : (n : ℤ) (d : ℕ) → pos (0 * (d * 1)) ≡ n *ℤ pos 0 *ℤ pos 1
    ring n d = rw (is n, nat (0 * (d * 1))) (simp scale (same _ _ _ _ (omega arith)))

-- an exponent and its opposite cancel
pub sum_minus : (a : Rational) → 0 < a.den → sum a (minus a) ≡ Some F.zero
sum_minus a h = sum_of a (minus a) F.zero h h zero_proper (ring a.num a.den)
  where
    ring : (n : ℤ) (d : ℕ) → pos (0 * (d * d)) ≡ (n *ℤ pos d +ℤ neg_ℤ n *ℤ pos d) *ℤ pos 1
    ring n d = rw (is n, nat (0 * (d * d))) (simp (scale, plus, turn) (same _ _ _ _ (omega arith)))

pub difference_self : (a : Rational) → 0 < a.den → difference a a ≡ Some F.zero
difference_self a h = difference_sum a a ∙ sum_minus a h

-- a − b is x just where x + b is a
pub sum_back : (a b x : Rational) → Proper a → Proper b → difference a b ≡ Some x → sum x b ≡ Some a
sum_back a b x h k e =
    sum_assoc a (minus b) b x F.zero (sym (difference_sum a b) ∙ e) (sum_comm (minus b) b ∙ sum_minus b k.reduced.positive) ∙ sum_zero a h

pub difference_back : (a b x : Rational) → Proper b → Proper x → sum x b ≡ Some a → difference a b ≡ Some x
difference_back a b x k l e =
    difference_sum a b ∙ sum_assoc x b (minus b) a F.zero e (sum_minus b k.reduced.positive) ∙ sum_zero x l

-- ---- a power of a product is the product of the powers
sum_both : (n m : ℤ) (d e : ℕ) (x y : Rational) → answer n d ≡ Some x → answer m e ≡ Some y → sum x y ≡ answer (n *ℤ pos e +ℤ m *ℤ pos d) (d * e)
unfolding sum
sum_both n m d e x y p q =
    sum_after n d x y p (answer_proper m e y q).reduced.positive
    ∙ sum_comm (ratio n d) y
    ∙ sum_after m e y (ratio n d) q (answer_positive n d x p)
    ∙ sum_comm (ratio m e) (ratio n d)

pub product_sum : (a b c x p q : Rational) → sum a b ≡ Some x → product a c ≡ Some p → product b c ≡ Some q → product x c ≡ sum p q
unfolding sum product answer
product_sum a b c x p q e f g =
    let h = factors a.den c.den (answer_positive _ _ p f) in
    product_after _ _ x c e h.1
    ∙ ap limited (sym (lowest_scale _ _ c.den h.1))
    ∙ both _ _ _ _ (ring a.num b.num c.num a.den b.den c.den) (squared a.den b.den c.den)
    ∙ sym (sum_both _ _ _ _ p q f g)
  where
    ring : (n m k : ℤ) (a b c : ℕ) → (n *ℤ pos b +ℤ m *ℤ pos a) *ℤ k *ℤ pos c ≡ n *ℤ k *ℤ pos (b * c) +ℤ m *ℤ k *ℤ pos (a * c)
    ring n m k a b c = rw (is n, is m, is k) (simp (scale, times, plus) (same _ _ _ _ (omega arith)))

    squared : (a b c : ℕ) → a * b * c * c ≡ a * c * (b * c)
    squared a b c = omega arith

-- ---- `equal` is equality; `is_one` and `is_zero` say which number it is
eq_z_true : (x y : ℤ) → eq_z x y ≡ true → x ≡ y
eq_z_true (pos m) (pos n) e = ap pos (eqb-true m n e)
eq_z_true (pos m) (negsuc n) e = cc
eq_z_true (negsuc m) (pos n) e = cc
eq_z_true (negsuc m) (negsuc n) e = ap negsuc (eqb-true m n e)

eq_z_self : (x : ℤ) → eq_z x x ≡ true
eq_z_self (pos n) = eq-eqb n n refl
eq_z_self (negsuc n) = eq-eqb n n refl

pub equal_same : (a b : Rational) → equal a b ≡ true → a ≡ b
unfolding equal
equal_same a b e =
    alike a b (eq_z_true a.num b.num (and_left (eq_z a.num b.num) _ e)) (eqb-true a.den b.den (and_right (eq_z a.num b.num) _ e))

pub same_equal : (a : Rational) → equal a a ≡ true
unfolding equal
same_equal a = simp (eq_z_self a.num, eq-eqb a.den a.den refl)

pub is_one_law : (a : Rational) → Reduced a → is_one a ≡ true → a ≡ F.one
unfolding is_one
is_one_law a h e = same_value a F.one h one_proper.reduced (rw (eq_z_true a.num (pos a.den) (and_right (ltb 0 a.den) _ e)) (ap pos (omega arith)))

pub is_zero_law : (a : Rational) → Reduced a → is_zero a ≡ true → a ≡ F.zero
unfolding is_zero
is_zero_law a h e = same_value a F.zero h zero_proper.reduced (rw (eq_z_true a.num (pos 0) (and_right (ltb 0 a.den) _ e)) (ap pos (omega arith)))

-- ---- what a catalog declares
pub declared_proper : (a : Rational) → Declared a → Proper a
declared_proper a h = record { reduced = h.reduced; num = omega (arith, h.num); den = omega (arith, h.den) }

-- the test, and what it tells
pub declared_told : (a : Rational) → declared a ≡ true → Declared a
unfolding declared
declared_told a e =
    let p = leb (nat_abs a.num) 32768 in
    let q = ltb 0 a.den in
    let r = leb a.den 32767 in
    let s = eqb (gcd (nat_abs a.num) a.den) 1 in
    let w = and_left (p && q && r && s) _ e in
    let x = and_left (p && q && r) _ w in
    let y = and_left (p && q) _ x in
    record {
      reduced = record { coprime = eqb-true _ 1 (and_right (p && q && r) _ w); positive = ltb-true 0 a.den (and_right p _ y) };
      num = leb-true (nat_abs a.num) 32768 (and_left p _ y);
      den = leb-true a.den 32767 (and_right (p && q) _ x);
      top = leb-true (up a.num) 32767 (and_right (p && q && r && s) _ e);
    }

pub told_declared : (a : Rational) → Declared a → declared a ≡ true
unfolding declared
told_declared a h =
    simp (le-leb (nat_abs a.num) 32768 h.num, lt-ltb 0 a.den h.reduced.positive, le-leb a.den 32767 h.den, eq-eqb _ 1 h.reduced.coprime, le-leb (up a.num) 32767 h.top)

up_opposite : (n : ℕ) → up (neg_ℤ (pos n)) ≤ 0
up_opposite zero = zero-le
up_opposite (suc n) = zero-le

-- lowest terms are no larger
size_lowest : (z : ℤ) (d : ℕ) → nat_abs (lowest z d).num ≤ nat_abs z
unfolding lowest
size_lowest (pos n) d = div-le_self n (gcd n d)
size_lowest (negsuc n) d = rw (size_neg (pos (suc n / gcd (suc n) d))) (div-le_self (suc n) (gcd (suc n) d))

up_lowest : (z : ℤ) (d : ℕ) → up (lowest z d).num ≤ up z
unfolding lowest
up_lowest (pos n) d = div-le_self n (gcd n d)
up_lowest (negsuc n) d = up_opposite (suc n / gcd (suc n) d)

den_lowest : (z : ℤ) (d : ℕ) → (lowest z d).den ≤ d
unfolding lowest
den_lowest z d = div-le_self d (gcd (nat_abs z) d)

-- so what is small is answered, and its answer is as small
small_answer : (z : ℤ) (d : ℕ) → 0 < d → nat_abs z ≤ limit → d ≤ limit → answer z d ≡ Some (lowest z d)
unfolding answer limited
small_answer z d h p q =
    rw (within_of (lowest z d) (record { reduced = lowest_reduced z d h; num = le_trans (size_lowest z d) p; den = le_trans (den_lowest z d) q }))

-- a fraction of 16-bit parts, reduced, can be declared
pub small_declared : (n : ℤ) (d : ℕ) → 0 < d → nat_abs n ≤ 32768 → up n ≤ 32767 → d ≤ 32767 → (r : Rational) × (answer n d ≡ Some r) × Declared r
small_declared n d h p t q = (
  lowest n d,
  small_answer n d h (omega arith) (omega arith),
  record { reduced = lowest_reduced n d h; num = le_trans (size_lowest n d) p; den = le_trans (den_lowest n d) q; top = le_trans (up_lowest n d) t },
)

-- 01: "Declared exponents keep one product inside 32 bits: 2 × 32,768 × 32,767 = 2,147,418,112"
module _ (a b : Rational) (h : Declared a) (k : Declared b) where
  crossed : (nat_abs (a.num *ℤ pos b.den) ≤ 1073709056) × (nat_abs (b.num *ℤ pos a.den) ≤ 1073709056)
  crossed = (
    rw (size_product a.num (pos b.den)) (mul-le-mul h.num k.den),
    rw (size_product b.num (pos a.den)) (mul-le-mul k.num h.den),
  )

  small_sum : nat_abs (a.num *ℤ pos b.den +ℤ b.num *ℤ pos a.den) ≤ 2147418112
  small_sum = omega (arith, crossed.0, crossed.1, size_sum (a.num *ℤ pos b.den) (b.num *ℤ pos a.den))

  small_difference : nat_abs (a.num *ℤ pos b.den -ℤ b.num *ℤ pos a.den) ≤ 2147418112
  small_difference = omega (arith, crossed.0, crossed.1, size_difference (a.num *ℤ pos b.den) (b.num *ℤ pos a.den))

  small_den : a.den * b.den ≤ limit
  small_den = omega (arith, mul-le-mul h.den k.den)

  den_positive : 0 < a.den * b.den
  den_positive = mul-pos h.reduced.positive k.reduced.positive

  pub declared_sum : (r : Rational) × (sum a b ≡ Some r) × (nat_abs r.num ≤ 2147418112)
  unfolding sum
  declared_sum = (_, small_answer _ _ den_positive (omega (arith, small_sum)) small_den, le_trans (size_lowest _ (a.den * b.den)) small_sum)

  pub declared_difference : (r : Rational) × (difference a b ≡ Some r) × (nat_abs r.num ≤ 2147418112)
  unfolding difference
  declared_difference = (_, small_answer _ _ den_positive (omega (arith, small_difference)) small_den, le_trans (size_lowest _ (a.den * b.den)) small_difference)
