-- Decimal digits, from the last to the first. Assumes nothing.
use Prim.Native.Nat.{ℕ, zero, suc, ◌+◌, ◌-◌, ◌*◌, ◌/◌, ◌%◌, ◌<◌, ◌≤◌}
use mathlib.Core.Path.{◌≡◌, refl, ◌∙◌, subst}
use mathlib.Core.Bool.{Bool, true, false, cond}
use mathlib.Core.List.{List, [], ◌∷◌, ◌++◌, append_assoc}
use native.Mathlib.Omega.{arith}
use borrow.Author.Tests.{lt-ltb, le-ltb, ltb-true, ltb-false}
use lib.Dec.{ltb}
use lib.ListN.{length, take, drop, set, length-append, length-drop, length-set}
use lib.Seq.{drop-cons, drop-set-lt, get_or-set_same, take_all}
use Rattle.rules.specs.Report.{digits_by, digits}

-- any bound above the number does
bounded : (j k n : ℕ) → n < j → n < k → digits_by j n ≡ digits_by k n
unfolding digits_by
bounded zero k n h g = absurd (omega (arith, h))
bounded (suc j) zero n h g = absurd (omega (arith, g))
bounded (suc j) (suc k) n h g = go (bounded j k (n / 10)) (ltb n 10) refl
  where
    go : (n / 10 < j → n / 10 < k → digits_by j (n / 10) ≡ digits_by k (n / 10)) → (t : Bool) → ltb n 10 ≡ t → cond (ltb n 10) ((48 + n) ∷ []) (digits_by j (n / 10) ++ ((48 + n % 10) ∷ [])) ≡ cond (ltb n 10) ((48 + n) ∷ []) (digits_by k (n / 10) ++ ((48 + n % 10) ∷ []))
    go ih true p = rw p
    go ih false p = let m = ltb-false n 10 p in rw (p, ih (omega (arith, h, m)) (omega (arith, g, m)))

last_digit : (n : ℕ) → n < 10 → digits n ≡ (48 + n) ∷ []
unfolding digits digits_by
last_digit n h = rw (lt-ltb n 10 h)

more_digits : (n : ℕ) → 10 ≤ n → digits n ≡ digits (n / 10) ++ ((48 + n % 10) ∷ [])
unfolding digits digits_by
more_digits n h = rw (le-ltb n 10 h, bounded n (suc (n / 10)) (n / 10) (omega (arith, h)) (omega arith))

-- the numbers below it have at most i digits
unfoldable pub tens : ℕ → ℕ
tens zero = 1
tens (suc i) = 10 * tens i

few_digits : (i n : ℕ) → n < tens (suc i) → length (digits n) ≤ suc i
unfolding tens
few_digits zero n h = rw (last_digit n (omega (arith, h))) (omega arith)
few_digits (suc i) n h = go (few_digits i (n / 10)) (ltb n 10) refl
  where
    go : (n / 10 < tens (suc i) → length (digits (n / 10)) ≤ suc i) → (t : Bool) → ltb n 10 ≡ t → length (digits n) ≤ suc (suc i)
    go ih true p = rw (last_digit n (ltb-true n 10 p)) (omega arith)
    go ih false p = let l = ih (omega (arith, h)) in rw (more_digits n (ltb-false n 10 p), length-append) (omega (arith, l))

-- 20 digits are enough for 64 bits
pub twenty : (n : ℕ) → n < 18446744073709551616 → length (digits n) ≤ 20
unfolding tens
twenty n h = few_digits 19 n (omega (arith, h))

-- ---- the digits of m are still to come, those of n after them stand in the text t from i on; the next is put before them, at j
put_before : (t : List ℕ) (j v : ℕ) → j < length t → drop j (set t j v) ≡ v ∷ drop (suc j) t
put_before t j v h =
    let l : j < length (set t j v) = rw length-set h in
    drop-cons (set t j v) j v l ∙ rw (get_or-set_same t j v v h, drop-set-lt (suc j) t j v (omega arith))

module _ (m i : ℕ) where
  pub more_room : 10 ≤ m → m < tens i → 1 ≤ i - 1
  unfolding tens
  more_room = go i
    where
      go : (i : ℕ) → 10 ≤ m → m < tens i → 1 ≤ i - 1
      go zero h g = absurd (omega (arith, h, g))
      go (suc zero) h g = absurd (omega (arith, h, g))
      go (suc (suc i)) h g = omega arith

  pub room_left : 1 ≤ i → m < tens i → m / 10 < tens (i - 1)
  unfolding tens
  room_left h g =
      let e : i ≡ suc (i - 1) = omega (arith, h) in
      let k : m < 10 * tens (i - 1) = subst (λ (j : ℕ). m < tens j) e g in
      omega (arith, k)

  module _ (n j : ℕ) (t : List ℕ) (e : i ≡ suc j) where
    pub put_digit : j < length t → digits n ≡ digits m ++ drop i t → 10 ≤ m → digits n ≡ digits (m / 10) ++ drop j (set t j (48 + m % 10))
    put_digit l d h = d ∙ rw (put_before t j (48 + m % 10) l, more_digits m h, e) (append_assoc (digits (m / 10)) ((48 + m % 10) ∷ []) (drop (suc j) t))

    -- with its first digit the number is whole
    pub put_all : length t ≡ 20 → i ≤ 20 → digits n ≡ digits m ++ drop i t → m < 10 → digits n ≡ take (20 - j) (drop j (set t j (48 + m)))
    put_all l g d h =
        let k : j < length t = omega (arith, l, g, e) in
        let x = length-drop j (set t j (48 + m)) in
        let y = length-set t j (48 + m) in
        d ∙ rw (take_all (20 - j) (drop j (set t j (48 + m))) (omega (arith, x, y, l)), put_before t j (48 + m) k, last_digit m h, e)
