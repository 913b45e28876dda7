-- The laws of `first`. Four prove a scan, whose invariant says that nothing is found below i:
--     first_none    below 0 there is none
--     first_next    the code's test b fails at i: none below i + 1
--     found_here    it passes at i, below n: the first below n is i
--     found_end     i has come to n: none below n
-- Assumes nothing.
use Prim.Native.Nat.{ℕ, zero, suc, ◌+◌, ◌<◌, ◌≤◌}
use mathlib.Core.Path.{◌≡◌, refl, ◌∙◌, subst}
use mathlib.Core.Bool.{Bool, true, false}
use mathlib.Core.Logic.{⊎_elim}
use Rattle.std.specs.declared.option.Option.{Option}
use Rattle.std.specs.declared.option.Option.TheVariants.{None, Some}
use native.Mathlib.Nat.{le_of_suc-le-suc, not-suc-le-zero, eq-or-lt_of_le, le_antisymm}
use native.Mathlib.Numerals.{add-one}
use native.Mathlib.Omega.{arith}
use Rattle.laws.specs.Options.{found}
use Rattle.laws.specs.Ranges.{first}

module _ (test : ℕ → Bool) where
  pub first_none : first test 0 ≡ None
  unfolding first
  first_none = refl

  pub first_next : (i : ℕ) {b : Bool} → first test i ≡ None → b ≡ test i → b ≡ false → first test (i + 1) ≡ None
  unfolding first
  first_next i p e f = rw (add-one, first, p, ← e, f)

  pub first_here : (i n : ℕ) {b : Bool} → i < n → first test i ≡ None → b ≡ test i → b ≡ true → first test n ≡ Some i
  unfolding first
  first_here i zero l p e t = absurd (not-suc-le-zero l)
  first_here i (suc n) l p e t =
      ⊎_elim
      (λ q. subst (λ (m : ℕ). first test (suc m) ≡ Some i) q (rw (first, p, ← e, t)))
      (λ h. rw (first, first_here i n h p e t))
      (eq-or-lt_of_le (le_of_suc-le-suc l))

  pub first_end : (i n : ℕ) → i ≤ n → n ≤ i → first test i ≡ None → first test n ≡ None
  first_end i n l m p = rw (le_antisymm m l) p

  -- ---- what `first` tells
  -- below n + 1: what there is below n, or n itself, or nothing
  pub first_split : (n : ℕ) {i : ℕ} {B : Type 0} → first test (suc n) ≡ Some i → (first test n ≡ Some i → B) → (n ≡ i → test n ≡ true → B) → B
  unfolding first
  first_split n {i} {B} e before here = go (first test n) refl (test n) refl
    where
      go : (o : Option ℕ) → first test n ≡ o → (t : Bool) → test n ≡ t → B
      go (Some j) p t q = let h : Some j ≡ Some i = rw (first, p) at e in before (p ∙ h)
      go None p true q = let h : Some n ≡ Some i = rw (first, p, q) at e in let z : n ≡ i = cc in here z q
      go None p false q = let h : None ≡ Some i = rw (first, p, q) at e in let z : ◌≡◌ {A = ℕ} 0 1 = cc in absurd (omega arith)

  -- it is below n
  pub first_below : (n : ℕ) {i : ℕ} → first test n ≡ Some i → i < n
  unfolding first
  first_below zero {i} p = let z : ◌≡◌ {A = ℕ} 0 1 = cc in absurd (omega arith)
  first_below (suc n) {i} p = first_split n p (λ q. omega (arith, first_below n q)) (λ q t. omega arith)

  -- it passes the test
  pub first_passes : (n : ℕ) {i : ℕ} → first test n ≡ Some i → test i ≡ true
  unfolding first
  first_passes zero {i} p = cc
  first_passes (suc n) {i} p = first_split n p (λ q. first_passes n q) (λ q t. rw (← q) t)

  -- where there is none, each fails
  pub first_misses : (n i : ℕ) → first test n ≡ None → i < n → test i ≡ false
  unfolding first
  first_misses zero i e h = absurd (not-suc-le-zero h)
  first_misses (suc n) i e h = go (first_misses n i) (first test n) refl (test n) refl
    where
      go : (first test n ≡ None → i < n → test i ≡ false) → (o : Option ℕ) → first test n ≡ o → (t : Bool) → test n ≡ t → test i ≡ false
      go ih (Some j) p t q = let z : Some j ≡ None = rw (first, p) at e in cc
      go ih None p true q = let z : Some n ≡ None = rw (first, p, q) at e in cc
      go ih None p false q = ⊎_elim (λ z. let w : i ≡ n = omega arith in rw w q) (λ m. ih p m) (eq-or-lt_of_le (le_of_suc-le-suc h))

  -- tests that agree below n find the same
  pub first_same : (other : ℕ → Bool) (n : ℕ) → ((k : ℕ) → k < n → test k ≡ other k) → first test n ≡ first other n
  unfolding first
  first_same other zero h = refl
  first_same other (suc n) h =
      let p : first test n ≡ first other n = first_same other n (λ k l. h k (omega arith)) in
      let q : test n ≡ other n = h n (omega arith) in
      cc

-- ---- what a scan answers: f of the first, or a where there is none
module _ {A : Type 0} (test : ℕ → Bool) (i n : ℕ) {r : A} (f : ℕ → A) (a : A) where
  pub found_here : {b : Bool} → first test i ≡ None → i < n → b ≡ test i → b ≡ true → r ≡ f i → r ≡ found (first test n) f a
  found_here p l e t q = rw (first_here test i n l p e t) q

  pub found_end : first test i ≡ None → i ≤ n → n ≤ i → r ≡ a → r ≡ found (first test n) f a
  found_end p l m q = rw (first_end test i n l m p) q

pub ruleset scan = (first_none, first_next, found_here, found_end)
