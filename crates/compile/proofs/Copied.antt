-- Words copied over the front of a list one after the other (`copies`), and a front, zeros and rows put into it. Assumes nothing.
use Prim.Native.Nat.{ℕ, ◌+◌, ◌-◌, ◌<◌, ◌≤◌}
use mathlib.Core.Path.{◌≡◌, refl, sym, ◌∙◌, ap}
use mathlib.Core.List.{List, ◌++◌, append_assoc}
use native.Mathlib.Numerals.{add-one}
use native.Mathlib.Omega.{arith}
use borrow.Rule.Slice.PartMut.{put_mid}
use lib.ListN.{length, get_or, set, take, drop, replicate, length-append, length-drop, length-replicate}
use lib.Seq.{take_all, take-suc, take_at, take-append_seam, drop-append_seam, drop-drop, length-take-le}
use Rattle.laws.specs.Ranges.{overlay}
use Rattle.laws.proofs.Overlay.{overlay_next}

-- ---- words w copied over the front of t₀, one by one
pub copied_none : (w t : List ℕ) → t ≡ overlay (take 0 w) t
copied_none w t = refl

pub copied_next : (w t₀ : List ℕ) (i : ℕ) {t : List ℕ} {v : ℕ} → t ≡ overlay (take i w) t₀ → i < length w → length w ≤ length t₀ → v ≡ get_or w i 0 → set t i v ≡ overlay (take (i + 1) w) t₀
copied_next w t₀ i {t} {v} e h k x =
    overlay_next (take i w) t₀ i v e (sym (length-take-le i w (omega arith))) (omega arith)
    ∙ rw (x, add-one, take-suc w i 0 (omega arith))

pub copied_all : (w t₀ : List ℕ) (i : ℕ) {t : List ℕ} → t ≡ overlay (take i w) t₀ → length w ≤ i → t ≡ overlay w t₀
copied_all w t₀ i e m = e ∙ ap (λ (x : List ℕ). overlay x t₀) (take_all i w (omega arith))

pub ruleset copies = (copied_none, copied_next, copied_all)

-- ---- u is t with the front f, v that with zeros z up to place m, and then come the rows y
module _ (f r t : List ℕ) (m : ℕ) (h : length f ≤ m) (l : m ≤ length t) {u z y : List ℕ} (e : u ≡ overlay f t)
    (o : z ≡ replicate (length (take (m - length f) (drop (length f) u))) 0) (q : y ≡ r) where
  abbrev v : List ℕ
  v = put_mid (length f) (m - length f) u z

  abbrev between : List ℕ
  between = replicate (m - length f) 0

  front_taken : take (length f) u ≡ f
  front_taken = rw e (take-append_seam f (drop (length f) t))

  front_dropped : drop (length f) u ≡ drop (length f) t
  front_dropped = rw e (drop-append_seam f (drop (length f) t))

  cleared : z ≡ between
  cleared =
      let i : m - length f ≤ length (drop (length f) t) = rw (length-drop (length f) t) (omega arith) in
      o ∙ rw (front_dropped, length-take-le (m - length f) (drop (length f) t) i)

  first_long : length (f ++ between) ≡ m
  first_long = length-append f between ∙ omega (arith, length-replicate {A = ℕ} (m - length f) 0)

  first_two : v ≡ overlay (f ++ between) t
  first_two =
      let i : length f + (m - length f) ≡ m = omega arith in
      rw (front_taken, cleared, front_dropped, drop-drop (m - length f) (length f) t, i, first_long) (sym (append_assoc f between (drop m t)))

  second_dropped : drop m (overlay (f ++ between) t) ≡ drop (length (f ++ between)) t
  second_dropped = ap (λ (n : ℕ). drop n (overlay (f ++ between) t)) (sym first_long) ∙ drop-append_seam (f ++ between) (drop (length (f ++ between)) t)

  behind : (f ++ between) ++ (r ++ drop (length r) (drop (length (f ++ between)) t)) ≡ overlay (f ++ (between ++ r)) t
  behind =
      rw (← append_assoc f between r, length-append (f ++ between) r, drop-drop (length r) (length (f ++ between)) t)
      (sym (append_assoc (f ++ between) r (drop (length (f ++ between) + length r) t)))

  pub all_three : put_mid m (m + length r - m) v y ≡ overlay (f ++ (between ++ r)) t
  all_three =
      let i : m + length r - m ≡ length r = omega arith in
      rw (i, q, first_two, take_at (f ++ between) (drop (length (f ++ between)) t) m first_long, second_dropped) behind
