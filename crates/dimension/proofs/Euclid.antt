-- The laws of `gcd`: Euclid's step; it divides both numbers, and whatever divides both divides it; a factor of both moves out.
-- Assumes nothing.
use mathlib.Core.Path.{◌≡◌, refl, sym, ◌∙◌, ap}
use Prim.Native.Nat.{ℕ, zero, suc, ◌*◌, ◌%◌, ◌/◌, ◌<◌, ◌∣◌, ◌-◌}
use native.Mathlib.Nat.{mod-lt, mod_def, mul-div-mul_left, mul_assoc, mul-sub, mul-zero, mul-pos, dvd_refl, dvd-zero, dvd-mod_iff, pos_of_dvd_of_pos, zero-lt-suc, not-suc-le-zero}
use native.Mathlib.Omega.{arith}
use Rattle.dimension.specs.Gcd.{euclid, gcd}

-- more steps than the second number change nothing
enough : (k m a b : ℕ) → b < k → b < m → euclid k a b ≡ euclid m a b
unfolding euclid
enough zero m a b h l = omega arith
enough (suc k) zero a b h l = omega arith
enough (suc k) (suc m) a zero h l = refl
enough (suc k) (suc m) a (suc b) h l =
    let r : a % suc b < suc b = mod-lt a (zero-lt-suc b) in
    enough k m (suc b) (a % suc b) (omega arith) (omega arith)

pub gcd_zero : (a : ℕ) → gcd a zero ≡ a
unfolding gcd euclid
gcd_zero a = refl

pub gcd_step : (a b : ℕ) → 0 < b → gcd a b ≡ gcd b (a % b)
unfolding gcd euclid
gcd_step a zero h = omega arith
gcd_step a (suc b) h =
    let r : a % suc b < suc b = mod-lt a (zero-lt-suc b) in
    enough (suc b) (suc (a % suc b)) (suc b) (a % suc b) r (omega arith)

mul_mod : (m a b : ℕ) → 0 < m → (m * a) % (m * b) ≡ m * (a % b)
mul_mod m a b h =
    mod_def (m * a) (m * b)
    ∙ ap (λ (q : ℕ). m * a - m * b * q) (mul-div-mul_left a b h)
    ∙ ap (λ (x : ℕ). m * a - x) (mul_assoc m b (a / b))
    ∙ sym (mul-sub m a (b * (a / b)))
    ∙ ap (λ (x : ℕ). m * x) (sym (mod_def a b))

factor : (k m a b : ℕ) → b < k → 0 < m → gcd (m * a) (m * b) ≡ m * gcd a b
factor zero m a b h p = omega arith
factor (suc k) m a zero h p = rw (mul-zero m, gcd_zero (m * a), gcd_zero a)
factor (suc k) m a (suc b) h p =
    let r : a % suc b < suc b = mod-lt a (zero-lt-suc b) in
    gcd_step (m * a) (m * suc b) (mul-pos p (zero-lt-suc b))
    ∙ ap (gcd (m * suc b)) (mul_mod m a (suc b) p)
    ∙ factor k m (suc b) (a % suc b) (omega arith) p
    ∙ ap (λ (x : ℕ). m * x) (sym (gcd_step a (suc b) (zero-lt-suc b)))

-- a factor moves out
pub gcd_mul : (m a b : ℕ) → 0 < m → gcd (m * a) (m * b) ≡ m * gcd a b
gcd_mul m a b p = factor (suc b) m a b (omega arith) p

common : (k a b : ℕ) → b < k → (gcd a b ∣ a) × (gcd a b ∣ b)
common zero a b h = absurd (not-suc-le-zero h)
common (suc k) a zero h = rw gcd_zero (dvd_refl a, dvd-zero a)
common (suc k) a (suc b) h =
    let r : a % suc b < suc b = mod-lt a (zero-lt-suc b) in
    let e : (gcd (suc b) (a % suc b) ∣ suc b) × (gcd (suc b) (a % suc b) ∣ a % suc b) = common k (suc b) (a % suc b) (omega arith) in
    rw (gcd_step a (suc b) (zero-lt-suc b)) ((dvd-mod_iff (gcd (suc b) (a % suc b)) e.0).0 e.1, e.0)

-- it divides both
pub gcd_left : (a b : ℕ) → gcd a b ∣ a
gcd_left a b = (common (suc b) a b (omega arith)).0

pub gcd_right : (a b : ℕ) → gcd a b ∣ b
gcd_right a b = (common (suc b) a b (omega arith)).1

most : (k d a b : ℕ) → b < k → d ∣ a → d ∣ b → d ∣ gcd a b
most zero d a b h p q = absurd (not-suc-le-zero h)
most (suc k) d a zero h p q = rw gcd_zero p
most (suc k) d a (suc b) h p q =
    let r : a % suc b < suc b = mod-lt a (zero-lt-suc b) in
    rw (gcd_step a (suc b) (zero-lt-suc b)) (most k d (suc b) (a % suc b) (omega arith) q ((dvd-mod_iff d q).1 p))

-- and whatever divides both divides it
pub gcd_greatest : (d a b : ℕ) → d ∣ a → d ∣ b → d ∣ gcd a b
gcd_greatest d a b p q = most (suc b) d a b (omega arith) p q

pub gcd_pos : (a b : ℕ) → 0 < b → 0 < gcd a b
gcd_pos a b h = pos_of_dvd_of_pos (gcd_right a b) h
