-- The first number below n that passes a test, and the first below fewer. Assumes nothing.
use Prim.Native.Nat.{ℕ, zero, suc, ◌<◌, ◌≤◌}
use mathlib.Core.Path.{◌≡◌, refl, sym, ◌∙◌}
use mathlib.Core.Bool.{Bool, true≢false}
use mathlib.Core.Logic.{⊎_elim}
use Rattle.std.specs.declared.option.Option.{Option}
use Rattle.std.specs.declared.option.Option.TheVariants.{None, Some}
use native.Mathlib.Nat.{eq-or-lt_of_le, le_of_suc-le-suc}
use native.Mathlib.Omega.{arith}
use Rattle.laws.specs.Ranges.{first}
use Rattle.laws.proofs.First.{first_below, first_passes, first_misses}

module _ (test : ℕ → Bool) where
  -- what is first stays first
  pub first_grows : (k n : ℕ) {i : ℕ} → k ≤ n → first test k ≡ Some i → first test n ≡ Some i
  unfolding first
  first_grows k zero {i} l e = let z : k ≡ 0 = omega arith in rw z at e
  first_grows k (suc n) {i} l e =
      ⊎_elim
      (λ z. rw z at e)
      (λ m. rw (first, first_grows k n (le_of_suc-le-suc m) e))
      (eq-or-lt_of_le l)

  -- none below n: none below fewer
  pub first_fewer : (k n : ℕ) → k ≤ n → first test n ≡ None → first test k ≡ None
  first_fewer k n l e = go (first test k) refl
    where
      go : (o : Option ℕ) → first test k ≡ o → first test k ≡ None
      go None p = p
      go (Some i) p = let z : Some i ≡ None = sym (first_grows k n l p) ∙ e in cc

  module _ (k n : ℕ) {j : ℕ} (e : first test n ≡ Some j) where
    -- the first comes before k
    pub first_before : j < k → k ≤ n → first test k ≡ Some j
    first_before h l = go (first test k) refl
      where
        go : (o : Option ℕ) → first test k ≡ o → first test k ≡ Some j
        go None p = absurd (true≢false (sym (first_passes test n e) ∙ first_misses test k j p h))
        go (Some i) p = p ∙ (sym (first_grows k n l p) ∙ e)

    -- or it does not
    pub first_after : k ≤ j → first test k ≡ None
    first_after h = go (first test k) refl
      where
        go : (o : Option ℕ) → first test k ≡ o → first test k ≡ None
        go None p = p
        go (Some i) p =
            let l : j < n = first_below test n e in
            let q : Some i ≡ Some j = sym (first_grows k n (omega arith) p) ∙ e in
            let z : i ≡ j = cc in
            let m : i < k = first_below test k p in
            absurd (omega arith)
