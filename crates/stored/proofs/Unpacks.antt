-- Bytes unpacked one by one into a lent buffer. Assumes nothing.
use Prim.Native.Nat.{ℕ, zero, suc, ◌+◌, ◌-◌, ◌<◌, ◌≤◌}
use mathlib.Core.Path.{◌≡◌, refl, sym, ◌∙◌, ap}
use mathlib.Core.List.{List, [], ◌∷◌, ◌++◌, append-nil}
use native.Mathlib.Nat.{not-suc-le-zero, le_antisymm}
use native.Mathlib.Numerals.{add-one}
use native.Mathlib.Omega.{arith}
use lib.ListN.{length, get_or, take, drop, set, replicate, length-drop, drop_of_length-le}
use lib.Seq.{length-take-le, take_all, take-suc, drop-cons, get_or-drop, drop-drop}
use Rattle.laws.specs.Ranges.{overlay}
use Rattle.laws.proofs.Overlay.{overlay_next}
use Rattle.stored.specs.Packed.{unpacked}

-- ---- what the bytes stand for
less_one : (n : ℕ) → suc n - 1 ≡ n
less_one n = omega arith

unpacked_nil : (n : ℕ) → unpacked n [] ≡ []
unfolding unpacked
unpacked_nil zero = refl
unpacked_nil (suc n) = refl

pub one_zero : (n : ℕ) (p : List ℕ) → 0 < n → replicate n 0 ++ p ≡ 0 ∷ (replicate (n - 1) 0 ++ p)
one_zero zero p h = absurd (not-suc-le-zero h)
one_zero (suc n) p h = rw (less_one n)

literal : (n b : ℕ) (s : List ℕ) → 0 < n → unpacked n (b ∷ s) ≡ b ∷ unpacked (n - 1) s
unfolding unpacked
literal zero b s h = absurd (not-suc-le-zero h)
literal (suc n) b s h = rw (less_one n)

pair : (z : ℕ) (s : List ℕ) → unpacked 0 (z ∷ s) ≡ replicate z 0 ++ unpacked (get_or s 0 0) (drop 1 s)
unfolding unpacked
pair z [] = sym (append-nil (replicate z 0))
pair z (n ∷ s) = refl

module _ (s : List ℕ) (from : ℕ) (h : from < length s) where
  one_byte : (n : ℕ) → 0 < n → unpacked n (drop from s) ≡ get_or s from 0 ∷ unpacked (n - 1) (drop (from + 1) s)
  one_byte n k = rw (drop-cons s from 0 h, add-one from) (literal n (get_or s from 0) (drop (suc from) s) k)

  one_on : (k : ℕ) → suc from + k ≡ from + (1 + k)
  one_on k = omega arith

  one_pair : unpacked 0 (drop from s) ≡ replicate (get_or s from 0) 0 ++ unpacked (get_or s (from + 1) 0) (drop (from + 2) s)
  one_pair =
      let n : get_or (drop (suc from) s) 0 0 ≡ get_or s (from + 1) 0 = get_or-drop (suc from) s 0 0 ∙ ap (λ (k : ℕ). get_or s k 0) (one_on 0) in
      let r : drop 1 (drop (suc from) s) ≡ drop (from + 2) s = drop-drop 1 (suc from) s ∙ ap (λ (k : ℕ). drop k s) (one_on 1) in
      rw (drop-cons s from 0 h, ← n, ← r) (pair (get_or s from 0) (drop (suc from) s))

-- ---- what is to come: the rest r of u, from zeros and then the bytes from `from` on
module _ (zeros : ℕ) (s : List ℕ) (from n : ℕ) {r : List ℕ} (z : zeros ≤ 0) where
  no_zeros : r ≡ replicate zeros 0 ++ unpacked n (drop from s) → r ≡ unpacked n (drop from s)
  no_zeros e = let q : zeros ≡ 0 = omega arith in rw q at e

  pub none_to_come : length s ≤ from → r ≡ replicate zeros 0 ++ unpacked n (drop from s) → r ≡ []
  none_to_come h e = no_zeros e ∙ rw (drop_of_length-le s h) (unpacked_nil n)

  pub byte_to_come : from < length s → 0 < n → r ≡ replicate zeros 0 ++ unpacked n (drop from s) → r ≡ get_or s from 0 ∷ (replicate zeros 0 ++ unpacked (n - 1) (drop (from + 1) s))
  byte_to_come h l e = let q : zeros ≡ 0 = omega arith in rw q (no_zeros e ∙ one_byte s from h n l)

  pub pair_to_come : {j k : ℕ} → from < length s → n ≤ 0 → j ≡ get_or s from 0 → k ≡ get_or s (from + 1) 0 → r ≡ replicate zeros 0 ++ unpacked n (drop from s) → r ≡ replicate j 0 ++ unpacked k (drop (from + 2) s)
  pair_to_come h l j k e = let q : n ≡ 0 = omega arith in rw (j, k) (rw q at (no_zeros e) ∙ one_pair s from h)

-- ---- the buffer: u is written over t₀, and t is what it holds so far
module _ (u : List ℕ) (at : ℕ) where
  room : (v : ℕ) (rest : List ℕ) → drop at u ≡ v ∷ rest → at < length u
  room v rest e = let l : length u - at ≡ suc (length rest) = sym (length-drop at u) ∙ ap length e in omega arith

  pub next_left : (v : ℕ) (rest : List ℕ) → drop at u ≡ v ∷ rest → drop (at + 1) u ≡ rest
  next_left v rest e = rw (add-one at) (ap (λ (x : List ℕ). drop 1 x) (sym (drop-cons u at 0 (room v rest e)) ∙ e))

module _ (u t₀ : List ℕ) (at : ℕ) where
  pub next_written : {t : List ℕ} (v : ℕ) (rest : List ℕ) → t ≡ overlay (take at u) t₀ → at < length t₀ → drop at u ≡ v ∷ rest → set t at v ≡ overlay (take (at + 1) u) t₀
  next_written v rest p l e =
      let h = room u at v rest e in
      let q : get_or u at 0 ≡ v = ap (λ (x : List ℕ). get_or x 0 0) (sym (drop-cons u at 0 h) ∙ e) in
      rw (add-one at, take-suc u at 0 h, q) (overlay_next (take at u) t₀ at v p (sym (length-take-le at u (omega arith))) l)

  pub all_written : {t : List ℕ} → t ≡ overlay (take at u) t₀ → at ≤ length t₀ → drop at u ≡ [] → t ≡ overlay (take (length t₀) u) t₀
  all_written p l e =
      let k : length u - at ≡ 0 = sym (length-drop at u) ∙ ap length e in
      rw (take_all (length t₀) u (omega arith)) (rw (take_all at u (omega arith)) at p)

  pub full : {t : List ℕ} → t ≡ overlay (take at u) t₀ → at ≤ length t₀ → length t₀ ≤ at → t ≡ overlay (take (length t₀) u) t₀
  full p l h = rw (le_antisymm h l) p
