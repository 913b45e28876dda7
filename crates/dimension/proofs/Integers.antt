-- Equations of integers, by those of naturals, which `omega` multiplies out. Each integer is a difference of naturals, `diff (up z) (down z)`;
-- sums, products and opposites of differences are differences; and two are equal where the sums across are:
--     rw (is x, is y) (simp (scale, times, plus, turn) (same _ _ _ _ (omega arith)))
-- `scale`, and not `nat` and `times`, where a factor is `pos n`: products by 0 count among the 64 terms that `omega` takes.
-- Assumes nothing.
use mathlib.Core.Path.{◌≡◌, refl, sym, ◌∙◌, ap, ap₂}
use mathlib.Core.Logic.{◌⊎◌, inl, inr, ⊎_elim}
use Prim.Native.Nat.{ℕ, zero, suc, ◌+◌, ◌-◌, ◌*◌, ◌≤◌}
use native.Mathlib.Decide.{dec_le}
use native.Mathlib.Omega.{arith}
use borrow.Author.Tests.{le-ltb, lt-ltb}
use lib.IntN.{ℤ, pos, negsuc, neg_ℤ, nat_abs, sub_ℕ, ◌+ℤ◌, ◌-ℤ◌, ◌*ℤ◌, pos-ne-negsuc}
use Rattle.dimension.specs.Integer.{up, down}

-- a − b, shut so that nothing computes on it unasked
unfoldable pub diff : ℕ → ℕ → ℤ
diff a b = sub_ℕ a b

pub is_up : (a b k : ℕ) → a ≡ b + k → sub_ℕ a b ≡ pos k
is_up a b k e = let z : a - b ≡ k = omega arith in rw (le-ltb a b (omega arith)) (ap pos z)

pub is_down : (a b k : ℕ) → b ≡ a + suc k → sub_ℕ a b ≡ negsuc k
is_down a b k e = let z : b - suc a ≡ k = omega arith in rw (lt-ltb a b (omega arith)) (ap negsuc z)

-- a is b and k more, or b is a and more
abbrev Apart : ℕ → ℕ → Type 0
Apart a b = ((k : ℕ) × (a ≡ b + k)) ⊎ ((k : ℕ) × (b ≡ a + suc k))

apart : (a b : ℕ) → Apart a b
apart a b = go (dec_le b a)
  where
    go : Dec (b ≤ a) → Apart a b
    go (yes h) = inl (a - b, omega arith)
    go (no h) = inr (b - suc a, omega arith)

-- two differences are equal where the sums across are
pub same : (a b c d : ℕ) → a + d ≡ c + b → diff a b ≡ diff c d
unfolding diff
same a b c d e =
    ⊎_elim (λ p. is_up a b p.0 p.1 ∙ sym (is_up c d p.0 (omega (arith, p.1))))
    (λ p. is_down a b p.0 p.1 ∙ sym (is_down c d p.0 (omega (arith, p.1))))
    (apart a b)

-- and only there
pub across : (a b c d : ℕ) → diff a b ≡ diff c d → a + d ≡ c + b
unfolding diff
across a b c d e = go (apart a b) (apart c d)
  where
    go : Apart a b → Apart c d → a + d ≡ c + b
    go (inl p) (inl q) =
        let f : pos p.0 ≡ pos q.0 = sym (is_up a b p.0 p.1) ∙ e ∙ is_up c d q.0 q.1 in
        let g : p.0 ≡ q.0 = cc in
        omega (arith, p.1, q.1)
    go (inl p) (inr q) = absurd (pos-ne-negsuc p.0 q.0 (sym (is_up a b p.0 p.1) ∙ e ∙ is_down c d q.0 q.1))
    go (inr p) (inl q) = absurd (pos-ne-negsuc q.0 p.0 (sym (is_up c d q.0 q.1) ∙ sym e ∙ is_down a b p.0 p.1))
    go (inr p) (inr q) =
        let f : negsuc p.0 ≡ negsuc q.0 = sym (is_down a b p.0 p.1) ∙ e ∙ is_down c d q.0 q.1 in
        let g : p.0 ≡ q.0 = cc in
        omega (arith, p.1, q.1)

-- an integer is its two parts' difference, and a natural that of itself and 0
pub is : (z : ℤ) → z ≡ diff (up z) (down z)
unfolding diff
is (pos n) = sym (is_up n 0 n (omega arith))
is (negsuc n) = sym (is_down 0 (suc n) n (omega arith))

pub nat : (n : ℕ) → pos n ≡ diff n 0
nat n = is (pos n)

-- differences add up
pub plus : (a b c d : ℕ) → diff a b +ℤ diff c d ≡ diff (a + c) (b + d)
unfolding diff
plus a b c d = go (apart a b) (apart c d)
  where
    go : Apart a b → Apart c d → sub_ℕ a b +ℤ sub_ℕ c d ≡ sub_ℕ (a + c) (b + d)
    go (inl p) (inl q) =
        ap₂ ◌+ℤ◌ (is_up a b p.0 p.1) (is_up c d q.0 q.1)
        ∙ sym (is_up (a + c) (b + d) (p.0 + q.0) (omega (arith, p.1, q.1)))
    go (inl p) (inr q) =
        ap₂ ◌+ℤ◌ (is_up a b p.0 p.1) (is_down c d q.0 q.1)
        ∙ same p.0 (suc q.0) (a + c) (b + d) (omega (arith, p.1, q.1))
    go (inr p) (inl q) =
        ap₂ ◌+ℤ◌ (is_down a b p.0 p.1) (is_up c d q.0 q.1)
        ∙ same q.0 (suc p.0) (a + c) (b + d) (omega (arith, p.1, q.1))
    go (inr p) (inr q) =
        ap₂ ◌+ℤ◌ (is_down a b p.0 p.1) (is_down c d q.0 q.1)
        ∙ sym (is_down (a + c) (b + d) (suc (p.0 + q.0)) (omega (arith, p.1, q.1)))

below_zero : (n : ℕ) → neg_ℤ (pos n) ≡ diff 0 n
unfolding diff
below_zero zero = refl
below_zero (suc n) = sym (is_down 0 (suc n) n (omega arith))

-- the opposite of a difference is the difference the other way round
pub turn : (a b : ℕ) → neg_ℤ (diff a b) ≡ diff b a
unfolding diff
turn a b = go (apart a b)
  where
    go : Apart a b → neg_ℤ (sub_ℕ a b) ≡ sub_ℕ b a
    go (inl p) = ap neg_ℤ (is_up a b p.0 p.1) ∙ below_zero p.0 ∙ same 0 p.0 b a (omega (arith, p.1))
    go (inr p) = ap neg_ℤ (is_down a b p.0 p.1) ∙ sym (is_up b a (suc p.0) (omega (arith, p.1)))

-- the product of two differences
pub times : (a b c d : ℕ) → diff a b *ℤ diff c d ≡ diff (a * c + b * d) (a * d + b * c)
unfolding diff
times a b c d = go (apart a b) (apart c d)
  where
    go : Apart a b → Apart c d → sub_ℕ a b *ℤ sub_ℕ c d ≡ sub_ℕ (a * c + b * d) (a * d + b * c)
    go (inl (k, p)) (inl (l, q)) =
        let e : a * c + b * d ≡ a * d + b * c + k * l = rw (p, q) (omega arith) in
        ap₂ ◌*ℤ◌ (is_up a b k p) (is_up c d l q) ∙ sym (is_up (a * c + b * d) (a * d + b * c) (k * l) e)
    go (inl (k, p)) (inr (l, q)) =
        let e : 0 + (a * d + b * c) ≡ a * c + b * d + k * suc l = rw (p, q) (omega arith) in
        ap₂ ◌*ℤ◌ (is_up a b k p) (is_down c d l q) ∙ below_zero (k * suc l) ∙ same 0 (k * suc l) (a * c + b * d) (a * d + b * c) e
    go (inr (k, p)) (inl (l, q)) =
        let e : 0 + (a * d + b * c) ≡ a * c + b * d + suc k * l = rw (p, q) (omega arith) in
        ap₂ ◌*ℤ◌ (is_down a b k p) (is_up c d l q) ∙ below_zero (suc k * l) ∙ same 0 (suc k * l) (a * c + b * d) (a * d + b * c) e
    go (inr (k, p)) (inr (l, q)) =
        let e : a * c + b * d ≡ a * d + b * c + suc k * suc l = rw (p, q) (omega arith) in
        ap₂ ◌*ℤ◌ (is_down a b k p) (is_down c d l q) ∙ sym (is_up (a * c + b * d) (a * d + b * c) (suc k * suc l) e)

-- a difference times a natural
pub scale : (a b n : ℕ) → diff a b *ℤ pos n ≡ diff (a * n) (b * n)
scale a b n = ap (λ (z : ℤ). diff a b *ℤ z) (nat n) ∙ times a b n 0 ∙ same _ _ _ _ (omega arith)

-- ---- sizes
pub size_neg : (z : ℤ) → nat_abs (neg_ℤ z) ≡ nat_abs z
size_neg (pos zero) = refl
size_neg (pos (suc n)) = refl
size_neg (negsuc n) = refl

size_sub : (a b : ℕ) → nat_abs (sub_ℕ a b) ≤ a + b
size_sub a b = go (dec_le b a)
  where
    go : Dec (b ≤ a) → nat_abs (sub_ℕ a b) ≤ a + b
    go (yes h) = rw (le-ltb a b h) (omega arith)
    go (no h) = rw (lt-ltb a b (omega arith)) (omega arith)

pub size_sum : (x y : ℤ) → nat_abs (x +ℤ y) ≤ nat_abs x + nat_abs y
size_sum (pos a) (pos b) = omega arith
size_sum (pos a) (negsuc b) = omega (arith, size_sub a (suc b))
size_sum (negsuc a) (pos b) = omega (arith, size_sub b (suc a))
size_sum (negsuc a) (negsuc b) = omega arith

pub size_difference : (x y : ℤ) → nat_abs (x -ℤ y) ≤ nat_abs x + nat_abs y
size_difference x y = omega (arith, size_sum x (neg_ℤ y), size_neg y)

pub size_product : (x y : ℤ) → nat_abs (x *ℤ y) ≡ nat_abs x * nat_abs y
size_product (pos a) (pos b) = refl
size_product (pos a) (negsuc b) = size_neg (pos (a * suc b))
size_product (negsuc a) (pos b) = size_neg (pos (suc a * b))
size_product (negsuc a) (negsuc b) = refl
