-- A test of every element behind the first n, by places. Assumes nothing.
use Rattle.std.proofs.Common.{◌≡◌, ℕ, zero, suc, Bool, true, false, List, [], ◌∷◌, refl, sym, ap, ◌∙◌, arith}
use Rattle.std.specs.Prelude.{◌&&◌, ◌||◌, ltb, length, get_or, drop}
use Rattle.std.specs.List.{list_all}
use Rattle.std.proofs.lemmas.Bool.Decides.{nat_tests}
use borrow.Author.Tests.{lt-ltb, le-ltb}
use Rattle.laws.specs.Ranges.{all}

joined : (a b c : Bool) → ((a && b) && c) ≡ (a && (b && c))
joined true b c = refl
joined false b c = refl

alone : (b : Bool) → (true && b) ≡ (b && true)
alone true = refl
alone false = refl

-- the first place apart
first_apart : (test : ℕ → Bool) (m : ℕ) → all test (suc m) ≡ (test 0 && all (λ (k : ℕ). test (suc k)) m)
unfolding all
first_apart test zero = alone (test 0)
first_apart test (suc m) =
    ap (λ (b : Bool). b && test (suc m)) (first_apart test m) ∙ joined (test 0) (all (λ (k : ℕ). test (suc k)) m) (test (suc m))

whole : (test : ℕ → Bool) (w : List ℕ) (at : ℕ → Bool) → ((k : ℕ) → test (get_or w k 0) ≡ at k) → list_all test w ≡ all at (length w)
unfolding all
whole test [] at h = refl
whole test (x ∷ w) at h =
    ap (λ (b : Bool). b && list_all test w) (h 0) ∙ ap (λ (b : Bool). at 0 && b) (whole test w (λ (k : ℕ). at (suc k)) (λ (k : ℕ). h (suc k))) ∙ sym (first_apart at (length w))

none_below : (k : ℕ) (b : Bool) → b ≡ (ltb k 0 || b)
none_below k b = rw (le-ltb k 0 (omega arith)) refl

first_below : (n : ℕ) (b : Bool) → true ≡ (ltb 0 (suc n) || b)
first_below n b = rw (lt-ltb 0 (suc n) (omega arith)) refl

shift : (k n : ℕ) → ltb k n ≡ ltb (suc k) (suc n)
shift k n = grind (arith, nat_tests)

one_less : (k n : ℕ) (b : Bool) → (ltb k n || b) ≡ (ltb (suc k) (suc n) || b)
one_less k n b = ap (λ (c : Bool). c || b) (shift k n)

behind : (test : ℕ → Bool) (n : ℕ) (w : List ℕ) (at : ℕ → Bool) → ((k : ℕ) → (ltb k n || test (get_or w k 0)) ≡ at k) → list_all test (drop n w) ≡ all at (length w)
unfolding all
behind test zero w at h = whole test w at (λ (k : ℕ). none_below k (test (get_or w k 0)) ∙ h k)
behind test (suc n) [] at h = refl
behind test (suc n) (x ∷ w) at h =
    behind test n w (λ (k : ℕ). at (suc k)) (λ (k : ℕ). one_less k n (test (get_or w k 0)) ∙ h (suc k))
    ∙ ap (λ (b : Bool). b && all (λ (k : ℕ). at (suc k)) (length w)) (first_below n (test x) ∙ h 0)
    ∙ sym (first_apart at (length w))

pub past : (test : ℕ → Bool) (n : ℕ) (w : List ℕ) → list_all test (drop n w) ≡ all (λ (k : ℕ). ltb k n || test (get_or w k 0)) (length w)
past test n w = behind test n w (λ (k : ℕ). ltb k n || test (get_or w k 0)) (λ (k : ℕ). refl)
