-- The laws of `tab`: a loop that writes a lent list by a rule, from its front (`writes`), and one that fills an array (`fills`).
-- Assumes nothing.
use Prim.Native.Nat.{ℕ, zero, suc, ◌+◌, ◌<◌, ◌≤◌}
use mathlib.Core.Path.{◌≡◌, refl, sym, ◌∙◌, ap₂}
use mathlib.Core.Logic.{⊎_elim}
use mathlib.Core.List.{List, [], ◌∷◌, ◌++◌}
use native.Mathlib.Nat.{le_antisymm, not-suc-le-zero, le_of_suc-le-suc, eq-or-lt_of_le}
use native.Mathlib.Numerals.{add-one}
use native.Mathlib.Omega.{arith}
use lib.ListN.{length, get_or, set, take, length-append, get_or-append}
use lib.Seq.{take-suc-set, take_all, get_or_at}
use Rattle.laws.specs.Ranges.{tab, overlay}
use Rattle.laws.proofs.Overlay.{overlay_next}

module _ {A : Type 0} (f : ℕ → A) where
  pub length_tab : (n : ℕ) → length (tab f n) ≡ n
  unfolding tab
  length_tab zero = refl
  length_tab (suc n) = length-append (tab f n) (f n ∷ []) ∙ omega (arith, length_tab n)

  -- each element is the rule's
  pub tab_at : (n i : ℕ) (z : A) → i < n → get_or (tab f n) i z ≡ f i
  unfolding tab
  tab_at zero i z h = absurd (not-suc-le-zero h)
  tab_at (suc n) i z h =
      ⊎_elim
      (λ q. rw q (get_or_at (tab f n) (f n) [] z n (length_tab n)))
      (λ l. get_or-append (tab f n) (f n ∷ []) z i (rw (length_tab n) l) ∙ tab_at n i z l)
      (eq-or-lt_of_le (le_of_suc-le-suc h))

  -- rules that agree below n list the same
  pub tab_same : (g : ℕ → A) (n : ℕ) → ((k : ℕ) → k < n → f k ≡ g k) → tab f n ≡ tab g n
  unfolding tab
  tab_same g zero h = refl
  tab_same g (suc n) h = ap₂ (λ (l : List A) (x : A). l ++ (x ∷ [])) (tab_same g n (λ k l. h k (omega arith))) (h n (omega arith))

  -- ---- a lent list, t now and t₀ at first
  pub tab_none : (t : List A) → t ≡ overlay (tab f 0) t
  unfolding tab
  tab_none t = refl

  pub tab_next : (i n : ℕ) {t : List A} (t₀ : List A) {v : A} → t ≡ overlay (tab f i) t₀ → i < n → n ≤ length t₀ → v ≡ f i → set t i v ≡ overlay (tab f (i + 1)) t₀
  unfolding tab
  tab_next i n t₀ {v} p l m e = rw (add-one i, tab, ← e) (overlay_next (tab f i) t₀ i v p (sym (length_tab i)) (omega arith))

  pub tab_end : (i n : ℕ) {t : List A} (t₀ : List A) → t ≡ overlay (tab f i) t₀ → i ≤ n → n ≤ i → t ≡ overlay (tab f n) t₀
  tab_end i n t₀ p l m = rw (le_antisymm m l) p

  -- ---- an array p of n elements, of which i are filled
  pub fill_none : (p : List A) → take 0 p ≡ tab f 0
  unfolding tab
  fill_none p = refl

  pub fill_next : (i n : ℕ) (p : List A) {v : A} → take i p ≡ tab f i → length p ≡ n → i < n → v ≡ f i → take (i + 1) (set p i v) ≡ tab f (i + 1)
  unfolding tab
  fill_next i n p {v} e l h q = rw (add-one i, take-suc-set p i v (omega arith), tab, ← e, ← q)

  pub fill_end : (i n : ℕ) (p : List A) → take i p ≡ tab f i → length p ≡ n → i ≤ n → n ≤ i → p ≡ tab f n
  fill_end i n p e l h m = let q : n ≡ i = le_antisymm m h in rw q (sym (take_all i p (omega arith)) ∙ e)

pub ruleset writes = (tab_none, tab_next, tab_end)

pub ruleset fills = (fill_none, fill_next, fill_end)
