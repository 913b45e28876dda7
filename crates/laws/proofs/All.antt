-- The laws of `all`: four prove a loop that tests each number and stops at the first that fails (`alls`), three one that gathers whether each passes
-- and ends at n alone (`everys`); `all_at` and `all_of` say what it means. Assumes nothing.
use Prim.Native.Nat.{ℕ, zero, suc, ◌+◌, ◌<◌, ◌≤◌}
use mathlib.Core.Path.{◌≡◌, refl, sym, ◌∙◌, subst}
use mathlib.Core.Bool.{Bool, true, false, ◌&&◌, and-false}
use mathlib.Core.Logic.{⊎_elim}
use native.Mathlib.Nat.{le_of_suc-le-suc, not-suc-le-zero, eq-or-lt_of_le, le_antisymm}
use native.Mathlib.Numerals.{add-one}
use native.Mathlib.Omega.{arith}
use Rattle.laws.specs.Ranges.{all}
use Rattle.laws.proofs.Cases.{and_left, and_right, and_both}

module _ (test : ℕ → Bool) where
  pub all_none : all test 0 ≡ true
  unfolding all
  all_none = refl

  pub all_next : (i : ℕ) {b : Bool} → all test i ≡ true → b ≡ test i → b ≡ true → all test (i + 1) ≡ true
  unfolding all
  all_next i p e t = rw (add-one, all) (and_both p (sym e ∙ t))

  -- the code's test b fails at i, below n
  pub all_here : (i n : ℕ) {b : Bool} → i < n → b ≡ test i → b ≡ false → false ≡ all test n
  unfolding all
  all_here i zero l e f = absurd (not-suc-le-zero l)
  all_here i (suc n) l e f =
      ⊎_elim
      (λ q. subst (λ (m : ℕ). false ≡ all test (suc m)) q (rw (all, ← e, f, and-false)))
      (λ h. rw (all, ← all_here i n h e f))
      (eq-or-lt_of_le (le_of_suc-le-suc l))

  pub all_end : (i n : ℕ) → all test i ≡ true → i ≤ n → n ≤ i → true ≡ all test n
  all_end i n p l m = rw (le_antisymm m l, p)

  -- ---- a loop with no branch: v says whether each below i passes
  pub every_none : true ≡ all test 0
  unfolding all
  every_none = refl

  pub every_next : (i : ℕ) {v b : Bool} → v ≡ all test i → b ≡ test i → (v && b) ≡ all test (i + 1)
  unfolding all
  every_next i e q = rw (add-one, all, e, q)

  pub every_end : (i n : ℕ) {v : Bool} → v ≡ all test i → i ≤ n → n ≤ i → v ≡ all test n
  every_end i n e l m = rw (le_antisymm m l) e

  -- ---- each number below n passes
  pub all_at : (n i : ℕ) → all test n ≡ true → i < n → test i ≡ true
  unfolding all
  all_at zero i e h = absurd (not-suc-le-zero h)
  all_at (suc n) i e h =
      ⊎_elim
      (λ q. rw q (and_right (all test n) (test n) e))
      (λ l. all_at n i (and_left (all test n) (test n) e) l)
      (eq-or-lt_of_le (le_of_suc-le-suc h))

  -- and where each does, they all do
  pub all_of : (n : ℕ) → ((i : ℕ) → i < n → test i ≡ true) → all test n ≡ true
  unfolding all
  all_of zero h = refl
  all_of (suc n) h = and_both (all_of n (λ i l. h i (omega arith))) (h n (omega arith))

pub ruleset alls = (all_none, all_next, all_here, all_end)

pub ruleset everys = (every_none, every_next, every_end)
