-- The laws of `picked`: a loop that counts those that pass, and one that writes them over the front of a lent list. `c` is how many there are
-- below i, b the code's test at i, and t the lent list, t₀ as it was at first. Assumes nothing.
use Prim.Native.Nat.{ℕ, zero, suc, ◌+◌, ◌<◌, ◌≤◌}
use mathlib.Core.Path.{◌≡◌, refl, ◌∙◌}
use mathlib.Core.Bool.{Bool, true, false}
use mathlib.Core.List.{List, [], ◌∷◌, ◌++◌}
use native.Mathlib.Nat.{le_antisymm}
use native.Mathlib.Numerals.{add-one}
use native.Mathlib.Omega.{arith}
use lib.ListN.{length, set, length-append}
use Rattle.laws.specs.Ranges.{picked, overlay}
use Rattle.laws.proofs.Overlay.{overlay_next, stored_length, kept_length}

module _ (test : ℕ → Bool) where
  pub picked_yes : (i : ℕ) {b : Bool} → b ≡ test i → b ≡ true → picked test (i + 1) ≡ picked test i ++ (i ∷ [])
  unfolding picked
  picked_yes i e p = rw (add-one, picked, ← e, p)

  pub picked_no : (i : ℕ) {b : Bool} → b ≡ test i → b ≡ false → picked test (i + 1) ≡ picked test i
  unfolding picked
  picked_no i e p = rw (add-one, picked, ← e, p)

  -- no more than there are numbers
  pub picked_few : (n : ℕ) → length (picked test n) ≤ n
  unfolding picked
  picked_few zero = omega arith
  picked_few (suc n) = go (picked_few n) (test n) refl
    where
      go : length (picked test n) ≤ n → (b : Bool) → test n ≡ b → length (picked test (suc n)) ≤ suc n
      go h true e = rw (picked, e, length-append) (omega arith)
      go h false e = rw (picked, e) (omega arith)

  -- tests that agree below n pick the same
  pub picked_same : (other : ℕ → Bool) (n : ℕ) → ((k : ℕ) → k < n → test k ≡ other k) → picked test n ≡ picked other n
  unfolding picked
  picked_same other zero h = refl
  picked_same other (suc n) h =
      let p : picked test n ≡ picked other n = picked_same other n (λ k l. h k (omega arith)) in
      let q : test n ≡ other n = h n (omega arith) in
      cc

  -- ---- counted
  pub counted_none : 0 ≡ length (picked test 0)
  unfolding picked
  counted_none = refl

  pub counted_no : (i c : ℕ) {b : Bool} {v : ℕ} → v ≡ c → c ≡ length (picked test i) → b ≡ test i → b ≡ false → v ≡ length (picked test (i + 1))
  counted_no i c w p e f = rw (picked_no i e f) (w ∙ p)

  pub counted_yes : (i c : ℕ) {b : Bool} {v : ℕ} → v ≡ c + 1 → c ≡ length (picked test i) → b ≡ test i → b ≡ true → v ≡ length (picked test (i + 1))
  counted_yes i c w p e f = rw (picked_yes i e f, length-append) (omega (arith, p))

  pub counted_end : (i n c : ℕ) → c ≡ length (picked test i) → i ≤ n → n ≤ i → c ≡ length (picked test n)
  counted_end i n c p l m = rw (le_antisymm m l) p

  -- ---- listed
  pub listed_none : (t : List ℕ) → t ≡ overlay (picked test 0) t
  unfolding picked
  listed_none t = refl

  pub listed_no : (i : ℕ) {t v : List ℕ} (t₀ : List ℕ) {b : Bool} → v ≡ t → t ≡ overlay (picked test i) t₀ → b ≡ test i → b ≡ false → v ≡ overlay (picked test (i + 1)) t₀
  listed_no i t₀ w p e f = rw (picked_no i e f) (w ∙ p)

  pub listed_yes : (i n c : ℕ) {t v : List ℕ} (t₀ : List ℕ) {b : Bool}
      → v ≡ set t c i → t ≡ overlay (picked test i) t₀ → c ≡ length (picked test i) → i < n → n ≤ length t₀ → b ≡ test i → b ≡ true
      → v ≡ overlay (picked test (i + 1)) t₀
  listed_yes i n c t₀ w p q m o e f = w ∙ rw (picked_yes i e f) (overlay_next (picked test i) t₀ c i p q (omega (arith, picked_few i)))

  pub listed_end : (i n : ℕ) {t : List ℕ} (t₀ : List ℕ) → t ≡ overlay (picked test i) t₀ → i ≤ n → n ≤ i → t ≡ overlay (picked test n) t₀
  listed_end i n t₀ p l m = rw (le_antisymm m l) p

pub ruleset picks = (counted_none, counted_no, counted_yes, counted_end, listed_none, listed_no, listed_yes, listed_end, stored_length, kept_length)
