-- Tests of several parts, gathered part by part. Assumes nothing.
use Rattle.std.proofs.Common.{◌≡◌, ℕ, zero, suc, ◌+◌, ◌*◌, ◌<◌, Bool, true, false, ◌&&◌, sym, refl, arith}
use Rattle.laws.specs.Ranges.{all}

swapped : (a b c d : Bool) → (a && b && (c && d)) ≡ (a && c && (b && d))
swapped true true c d = refl
swapped true false true d = refl
swapped true false false d = refl
swapped false b c d = refl

-- all pass two tests exactly if all pass the one and all the other
pub all_and : (f g : ℕ → Bool) (n : ℕ) → (all f n && all g n) ≡ all (λ i. f i && g i) n
unfolding all
all_and f g zero = refl
all_and f g (suc n) = rw (all, ← all_and f g n) (swapped (all f n) (f n) (all g n) (g n))

-- tests that agree below n
pub all_same : (f g : ℕ → Bool) (n : ℕ) → ((i : ℕ) → i < n → f i ≡ g i) → all f n ≡ all g n
unfolding all
all_same f g zero h = refl
all_same f g (suc n) h =
    let p : all f n ≡ all g n = all_same f g n (λ i l. h i (omega arith)) in
    let q : f n ≡ g n = h n (omega arith) in
    cc

-- a, b, c and d say whether all pass each of four tests
pub all_four : (f g h k : ℕ → Bool) (n : ℕ) {a b c d : Bool} → a ≡ all f n → b ≡ all g n → c ≡ all h n → d ≡ all k n → (a && b && c && d) ≡ all (λ i. f i && g i && h i && k i) n
all_four f g h k n p q r s =
    rw (p, q, r, s, all_and f g n, all_and (λ i. f i && g i) h n) (all_and (λ i. f i && g i && h i) k n)

-- two by two
pub all_pairs : (f : ℕ → Bool) (n : ℕ) → all (λ j. f (2 * j) && f (2 * j + 1)) n ≡ all f (2 * n)
unfolding all
all_pairs f zero = refl
all_pairs f (suc n) =
    let e : 2 * suc n ≡ suc (suc (2 * n)) = omega arith in
    let o : 2 * n + 1 ≡ suc (2 * n) = omega arith in
    rw (e, o, all, all, all_pairs f n) (sym (together (all f (2 * n)) (f (2 * n)) (f (suc (2 * n)))))
  where
    together : (a b c : Bool) → (a && b && c) ≡ (a && (b && c))
    together true b c = refl
    together false b c = refl
