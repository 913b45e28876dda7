-- The numbers below n that pass a test: none, one alone, or two at least. Assumes nothing.
use Prim.Native.Nat.{ℕ, zero, suc, ◌<◌, ◌≤◌}
use mathlib.Core.Path.{◌≡◌, refl}
use mathlib.Core.Bool.{Bool, true, false}
use mathlib.Core.List.{List, [], ◌∷◌, ◌++◌}
use mathlib.Core.Logic.{⊎_elim}
use native.Mathlib.Nat.{le_of_suc-le-suc, not-suc-le-zero, eq-or-lt_of_le}
use native.Mathlib.Omega.{arith}
use lib.ListN.{length, length-append}
use Rattle.laws.specs.Ranges.{picked}

module _ (test : ℕ → Bool) where
  pub picked_none : (n : ℕ) → ((j : ℕ) → j < n → test j ≡ false) → picked test n ≡ []
  unfolding picked
  picked_none zero h = refl
  picked_none (suc n) h = rw (picked, h n (omega arith)) (picked_none n (λ j l. h j (omega arith)))

  -- none from a to b
  pub picked_skip : (a b : ℕ) → a ≤ b → ((j : ℕ) → a ≤ j → j < b → test j ≡ false) → picked test b ≡ picked test a
  unfolding picked
  picked_skip a zero l h = let z : a ≡ 0 = omega arith in rw z
  picked_skip a (suc n) l h =
      ⊎_elim
      (λ q. rw q)
      (λ m. rw (picked, h n (omega arith) (omega arith)) (picked_skip a n (omega arith) (λ j u v. h j u (omega arith))))
      (eq-or-lt_of_le l)

  pub picked_one : (r n : ℕ) → r < n → test r ≡ true → ((j : ℕ) → j < n → (j ≡ r → ⊥) → test j ≡ false) → picked test n ≡ r ∷ []
  unfolding picked
  picked_one r zero l e h = absurd (not-suc-le-zero l)
  picked_one r (suc n) l e h =
      ⊎_elim
      (λ q. rw (picked, ← q, e, picked_none r (λ j m. h j (omega arith) (λ z. omega arith))))
      (λ m. rw (picked, h n (omega arith) (λ z. omega arith)) (picked_one r n m e (λ j s. h j (omega arith))))
      (eq-or-lt_of_le (le_of_suc-le-suc l))

  -- the first two, and whatever follows
  pub picked_two : (i j n : ℕ) → i < j → j < n → test i ≡ true → test j ≡ true → ((k : ℕ) → k < j → (k ≡ i → ⊥) → test k ≡ false) → (ks : List ℕ) × (picked test n ≡ i ∷ j ∷ ks)
  unfolding picked
  picked_two i j zero h l e f g = absurd (not-suc-le-zero l)
  picked_two i j (suc n) h l e f g =
      ⊎_elim
      (λ q. ([], rw (picked, ← q, f, picked_one i j h e g)))
      (λ m. let s = picked_two i j n h m e f g in more s.0 s.1 (test n) refl)
      (eq-or-lt_of_le (le_of_suc-le-suc l))
    where
      more : (ks : List ℕ) → picked test n ≡ i ∷ j ∷ ks → (b : Bool) → test n ≡ b → (js : List ℕ) × (picked test (suc n) ≡ i ∷ j ∷ js)
      more ks p true q = (ks ++ (n ∷ []), rw (picked, q, p))
      more ks p false q = (ks, rw (picked, q, p))

  -- ---- two
  one_more : (n : ℕ) → length (picked test n) ≤ length (picked test (suc n))
  unfolding picked
  one_more n = go (test n) refl
    where
      go : (b : Bool) → test n ≡ b → length (picked test n) ≤ length (picked test (suc n))
      go true e = rw (picked, e, length-append) (omega arith)
      go false e = rw (picked, e) (omega arith)

  with_one_law : (i n : ℕ) → i < n → test i ≡ true → 1 ≤ length (picked test n)
  unfolding picked
  with_one_law i zero h e = absurd (not-suc-le-zero h)
  with_one_law i (suc n) h e =
      ⊎_elim
      (λ q. rw (picked, ← q, e, length-append) (omega arith))
      (λ l. omega (arith, with_one_law i n l e, one_more n))
      (eq-or-lt_of_le (le_of_suc-le-suc h))

  pub with_two_law : (i j n : ℕ) → i < j → j < n → test i ≡ true → test j ≡ true → 2 ≤ length (picked test n)
  unfolding picked
  with_two_law i j zero h k e f = absurd (not-suc-le-zero k)
  with_two_law i j (suc n) h k e f =
      ⊎_elim
      (λ q. let w = with_one_law i j h e in rw (picked, ← q, f, length-append) (omega arith))
      (λ l. omega (arith, with_two_law i j n h l e f, one_more n))
      (eq-or-lt_of_le (le_of_suc-le-suc k))
