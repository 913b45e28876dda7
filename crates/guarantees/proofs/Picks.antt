-- What `picked` lists: the numbers below n that pass the test, ascending, and none only where none passes. Assumes nothing.
use Prim.Native.Nat.{ℕ, zero, suc, ◌+◌, ◌<◌, ◌≤◌}
use mathlib.Core.Path.{◌≡◌, refl, sym, ◌∙◌, ap}
use mathlib.Core.Bool.{Bool, true, false, true≢false}
use mathlib.Core.List.{List, [], ◌∷◌, ◌++◌}
use mathlib.Core.Logic.{⊎_elim}
use native.Mathlib.Nat.{le_of_suc-le-suc, not-suc-le-zero, eq-or-lt_of_le}
use native.Mathlib.Omega.{arith}
use native.Mathlib.Decide.{dec_le}
use lib.ListN.{length, get_or, length-append, get_or-append}
use lib.Seq.{get_or_at}
use Rattle.laws.specs.Ranges.{picked}

-- each member is less than those after it
abbrev pub Ascending : List ℕ → Type 0
Ascending ks = (i j : ℕ) → i < j → j < length ks → get_or ks i 0 < get_or ks j 0

less : (a b : ℕ) → a ≡ b → a < b → ⊥
less a b e l = omega arith

-- so no number is listed twice
pub distinct : (ks : List ℕ) → Ascending ks → (i j : ℕ) → i < length ks → j < length ks → get_or ks i 0 ≡ get_or ks j 0 → i ≡ j
distinct ks h i j p q e = go (dec_le (suc i) j) (dec_le (suc j) i)
  where
    go : Dec (suc i ≤ j) → Dec (suc j ≤ i) → i ≡ j
    go (yes l) m = absurd (less (get_or ks i 0) (get_or ks j 0) e (h i j l q))
    go (no l) (yes m) = absurd (less (get_or ks j 0) (get_or ks i 0) (sym e) (h j i m p))
    go (no l) (no m) = omega arith

shorter : (i n : ℕ) → i < n + 1 → i ≤ n
shorter i n h = omega arith

module _ (test : ℕ → Bool) where
  -- the last member, and those before it
  last_is : (n : ℕ) → get_or (picked test n ++ (n ∷ [])) (length (picked test n)) 0 ≡ n
  last_is n = get_or_at (picked test n) n [] 0 (length (picked test n)) refl

  before : (n i : ℕ) → i < length (picked test n) → get_or (picked test n ++ (n ∷ [])) i 0 ≡ get_or (picked test n) i 0
  before n i h = get_or-append (picked test n) (n ∷ []) 0 i h

  longer : (n : ℕ) → length (picked test n ++ (n ∷ [])) ≡ length (picked test n) + 1
  longer n = length-append (picked test n) (n ∷ [])

  -- each member passes, and is below n
  pub member_passes : (n i : ℕ) → i < length (picked test n) → (test (get_or (picked test n) i 0) ≡ true) × (get_or (picked test n) i 0 < n)
  unfolding picked
  member_passes zero i h = absurd (not-suc-le-zero h)
  member_passes (suc n) i h = go (λ j l. member_passes n j l) (test n) refl
    where
      go : ((j : ℕ) → j < length (picked test n) → (test (get_or (picked test n) j 0) ≡ true) × (get_or (picked test n) j 0 < n))
          → (t : Bool) → test n ≡ t → (test (get_or (picked test (suc n)) i 0) ≡ true) × (get_or (picked test (suc n)) i 0 < suc n)
      go ih false p = let l : i < length (picked test n) = rw (picked, p) at h in rw (picked, p) ((ih i l).0, omega (arith, (ih i l).1))
      go ih true p =
          let m : i < length (picked test n) + 1 = rw (picked, p, longer n) at h in
          ⊎_elim
          (λ (q : i ≡ length (picked test n)). let z : i ≡ length (picked test n) = q in rw (picked, p, z, last_is n) (p, omega arith))
          (λ l. rw (picked, p, before n i l) ((ih i l).0, omega (arith, (ih i l).1)))
          (eq-or-lt_of_le (shorter i (length (picked test n)) m))

  pub picked_ascending : (n : ℕ) → Ascending (picked test n)
  unfolding picked
  picked_ascending zero i j l h = absurd (not-suc-le-zero h)
  picked_ascending (suc n) i j l h = go (λ a b c d. picked_ascending n a b c d) (test n) refl
    where
      go : Ascending (picked test n) → (t : Bool) → test n ≡ t → get_or (picked test (suc n)) i 0 < get_or (picked test (suc n)) j 0
      go ih false p = let m : j < length (picked test n) = rw (picked, p) at h in rw (picked, p) (ih i j l m)
      go ih true p =
          let m : j < length (picked test n) + 1 = rw (picked, p, longer n) at h in
          ⊎_elim
          (λ q.
          let z : j ≡ length (picked test n) = omega arith in
          let y : i < length (picked test n) = omega arith in
          rw (picked, p, z, last_is n, before n i y) (member_passes n i y).1)
          (λ b. let y : i < length (picked test n) = omega arith in rw (picked, p, before n i y, before n j b) (ih i j l b))
          (eq-or-lt_of_le (shorter j (length (picked test n)) m))

  -- and whatever passes below n is listed
  pub picked_has : (n k : ℕ) → k < n → test k ≡ true → (i : ℕ) × (i < length (picked test n)) × (get_or (picked test n) i 0 ≡ k)
  unfolding picked
  picked_has zero k h t = absurd (not-suc-le-zero h)
  picked_has (suc n) k h t = go (λ l. picked_has n k l t) (test n) refl
    where
      go : (k < n → (i : ℕ) × (i < length (picked test n)) × (get_or (picked test n) i 0 ≡ k))
          → (b : Bool) → test n ≡ b → (i : ℕ) × (i < length (picked test (suc n))) × (get_or (picked test (suc n)) i 0 ≡ k)
      go ih false p =
          ⊎_elim
          (λ (q : k ≡ n). let z : true ≡ false = sym t ∙ ap test q ∙ p in absurd (true≢false z))
          (λ l. let m = ih l in (m.0, rw (picked, p) m.1, rw (picked, p) m.2))
          (eq-or-lt_of_le (le_of_suc-le-suc h))
      go ih true p =
          ⊎_elim
          (λ (q : k ≡ n). (length (picked test n), rw (picked, p, longer n) (omega arith), rw (picked, p) (last_is n ∙ sym q)))
          (λ l. let m = ih l in (m.0, rw (picked, p, longer n) (omega (arith, m.1)), rw (picked, p) (before n m.0 m.1 ∙ m.2)))
          (eq-or-lt_of_le (le_of_suc-le-suc h))

  -- ---- the first of them, and none
  -- the first passes
  pub head_passes : (n k : ℕ) (ks : List ℕ) → picked test n ≡ k ∷ ks → (test k ≡ true) × (k < n)
  unfolding picked
  head_passes zero k ks e = let z : ◌≡◌ {A = ℕ} 0 1 = cc in absurd (omega arith)
  head_passes (suc n) k ks e = go (head_passes n k) (test n) refl (picked test n) refl
    where
      go : ((ks : List ℕ) → picked test n ≡ k ∷ ks → (test k ≡ true) × (k < n)) → (t : Bool) → test n ≡ t → (l : List ℕ) → picked test n ≡ l → (test k ≡ true) × (k < suc n)
      go ih false p l q = let h : picked test n ≡ k ∷ ks = rw (picked, p) at e in ((ih ks h).0, omega (arith, (ih ks h).1))
      go ih true p [] q = let h : n ∷ [] ≡ k ∷ ks = rw (picked, p, q) at e in let z : n ≡ k = cc in (rw (← z) p, omega arith)
      go ih true p (j ∷ l) q = let h : j ∷ (l ++ (n ∷ [])) ≡ k ∷ ks = rw (picked, p, q) at e in let z : picked test n ≡ k ∷ l = cc in ((ih l z).0, omega (arith, (ih l z).1))

  -- where there is none, none passes
  pub none_passes : (n k : ℕ) → picked test n ≡ [] → k < n → test k ≡ false
  unfolding picked
  none_passes zero k e h = absurd (not-suc-le-zero h)
  none_passes (suc n) k e h = go (none_passes n k) (test n) refl (picked test n) refl
    where
      go : (picked test n ≡ [] → k < n → test k ≡ false) → (t : Bool) → test n ≡ t → (l : List ℕ) → picked test n ≡ l → test k ≡ false
      go ih true p [] q = let z : n ∷ [] ≡ [] = rw (picked, p, q) at e in cc
      go ih true p (j ∷ l) q = let z : j ∷ (l ++ (n ∷ [])) ≡ [] = rw (picked, p, q) at e in cc
      go ih false p l q = ⊎_elim (λ z. let w : k ≡ n = omega arith in rw w p) (λ m. ih (rw (picked, p) at e) m) (eq-or-lt_of_le (le_of_suc-le-suc h))

  pub passes_none : (n : ℕ) → ((k : ℕ) → k < n → test k ≡ false) → picked test n ≡ []
  unfolding picked
  passes_none zero h = refl
  passes_none (suc n) h = rw (picked, h n (omega arith)) (passes_none n (λ k l. h k (omega arith)))
