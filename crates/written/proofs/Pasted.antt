-- Lists put one after the other over the front of a list (`appends`). t is the list now, t₀ as it was at first, `at` how much
-- of it is written. Assumes nothing.
use Prim.Native.Nat.{ℕ, zero, suc, ◌+◌, ◌-◌, ◌<◌, ◌≤◌}
use mathlib.Core.Path.{◌≡◌, refl, sym, ◌∙◌, ap}
use mathlib.Core.Bool.{Bool, true, false}
use mathlib.Core.List.{List, [], ◌++◌, append-nil}
use native.Mathlib.Nat.{le_antisymm}
use native.Mathlib.Numerals.{add-one}
use native.Mathlib.Omega.{arith}
use borrow.Author.Tests.{ltb-true, ltb-false}
use lib.Dec.{ltb}
use lib.ListN.{length, get_or, set, take, drop, replicate, length-append, length-replicate, drop_of_length-le, get_or-append, get_or-eq_default}
use lib.Seq.{paste, paste-zero, paste-suc, take_all, length-paste, take-append_seam, drop-append-add, drop-drop, length-take-le, get_or-append-add, get_or-drop}
use Rattle.laws.specs.Ranges.{overlay}
use Rattle.written.specs.Shown.{flat}

-- the copying loop's next turn
pub paste_next : (t₀ : List ℕ) (at : ℕ) (w : List ℕ) (i n : ℕ) {t : List ℕ} {v : ℕ} → t ≡ paste t₀ at w i → i < n → at + n ≤ length t₀ → n ≤ length w → v ≡ get_or w i 0 → set t (at + i) v ≡ paste t₀ at w (i + 1)
paste_next t₀ at w i n e h k l x = rw (e, x, add-one) (paste-suc t₀ at w i 0 (omega arith) (omega arith))

pub paste_end : (t₀ : List ℕ) (at : ℕ) (w : List ℕ) (i n : ℕ) {t : List ℕ} → t ≡ paste t₀ at w i → i ≤ n → n ≤ i → t ≡ paste t₀ at w n
paste_end t₀ at w i n e l m = rw (le_antisymm m l) e

pub ruleset copies = (paste-zero, paste_next, paste_end)

-- ---- one list more
module _ (l t₀ w : List ℕ) (at n : ℕ) (q : at ≡ length l) (k : n ≤ length w) where
  pub paste_over : paste (overlay l t₀) at w n ≡ overlay (l ++ take n w) t₀
  paste_over = rw (q, take-append_seam l, drop-append-add l, drop-drop n, length-append l (take n w), length-take-le n w k)

module _ (f : ℕ → List ℕ) where
  pub flat_none : (t : List ℕ) → t ≡ overlay (flat f 0) t
  unfolding flat
  flat_none t = refl

  pub flat_next : (i at n : ℕ) {t v : List ℕ} (t₀ w : List ℕ) → v ≡ paste t at w n → t ≡ overlay (flat f i) t₀ → at ≡ length (flat f i) → n ≤ length w → take n w ≡ f i → v ≡ overlay (flat f (i + 1)) t₀
  unfolding flat
  flat_next i at n t₀ w x e q k h = x ∙ rw (e, add-one, flat, ← h) (paste_over (flat f i) t₀ w at n q k)

  -- how much is written
  pub used_none : 0 ≡ length (flat f 0)
  unfolding flat
  used_none = refl

  pub used_next : (i at n : ℕ) (w : List ℕ) → at ≡ length (flat f i) → n ≤ length w → take n w ≡ f i → at + n ≡ length (flat f (i + 1))
  unfolding flat
  used_next i at n w q k h = rw (add-one, flat, ← h, length-append (flat f i) (take n w), length-take-le n w k, q)

  -- a turn of a loop that puts one list after the other
  pub flat_turn : (i at m r : ℕ) {t v : List ℕ} (t₀ w : List ℕ) → v ≡ paste t at w m → t ≡ overlay (flat f i) t₀ → at ≡ length (flat f i) → length t ≡ r → at + m ≤ r → m ≤ length w → take m w ≡ f i
      → (length v ≡ r) × (at + m ≡ length (flat f (i + 1))) × (v ≡ overlay (flat f (i + 1)) t₀)
  flat_turn i at m r {t} t₀ w x e q l h k z =
      (ap length x ∙ length-paste t at w m (omega arith) k ∙ l, used_next i at m w q k z, flat_next i at m t₀ w x e q k z)

pub ruleset appends = (flat_none, used_none)

-- ---- over zeros a list reads as it does alone
zeros : (n i : ℕ) → get_or {A = ℕ} (replicate n 0) i 0 ≡ 0
zeros zero i = refl
zeros (suc n) zero = refl
zeros (suc n) (suc i) = zeros n i

pub over_zeros : (l : List ℕ) (n i : ℕ) → get_or (overlay l (replicate n 0)) i 0 ≡ get_or l i 0
over_zeros l n i = go (ltb i (length l)) refl
  where
    go : (b : Bool) → ltb i (length l) ≡ b → get_or (overlay l (replicate n 0)) i 0 ≡ get_or l i 0
    go true p = get_or-append l (drop (length l) (replicate n 0)) 0 i (ltb-true i (length l) p)
    go false p =
        let h : length l ≤ i = ltb-false i (length l) p in
        let z : (m : ℕ) → length l + m ≡ i → get_or (overlay l (replicate n 0)) i 0 ≡ 0 =
        λ m e. rw (← e) (get_or-append-add l (drop (length l) (replicate n 0)) m 0 ∙ get_or-drop (length l) (replicate n 0) m 0 ∙ zeros n (length l + m)) in
        z (i - length l) (omega arith) ∙ sym (get_or-eq_default l 0 h)

-- ---- two lists make up a whole
pub two_parts : (a b : List ℕ) (m n : ℕ) {t v : List ℕ} → t ≡ paste (replicate (m + n) 0) 0 a m → v ≡ paste t m b n → length a ≡ m → length b ≡ n → v ≡ a ++ b
two_parts a b m n {t} {v} e x p q =
    let h : m ≤ length a = omega arith in
    let k : n ≤ length b = omega arith in
    let y : take m a ≡ a = take_all m a (omega arith) in
    let z : take n b ≡ b = take_all n b (omega arith) in
    let u : t ≡ overlay a (replicate (m + n) 0) = e ∙ paste_over [] (replicate (m + n) 0) a 0 m refl h ∙ rw y in
    let w : v ≡ overlay (a ++ b) (replicate (m + n) 0) = x ∙ rw u (paste_over a (replicate (m + n) 0) b m n (sym p) k ∙ rw z) in
    let o : length (replicate {A = ℕ} (m + n) 0) ≤ length (a ++ b) = rw (length-replicate {A = ℕ} (m + n) 0, length-append a b) (omega arith) in
    w ∙ rw (drop_of_length-le (replicate (m + n) 0) o) (append-nil (a ++ b))
