-- A list written over the front of another, element by element. Assumes nothing.
use Prim.Native.Nat.{ℕ, ◌<◌, ◌≤◌}
use mathlib.Core.Path.{◌≡◌, sym, ◌∙◌, ap}
use mathlib.Core.List.{List, [], ◌∷◌, ◌++◌, append_assoc}
use native.Mathlib.Numerals.{add-one}
use native.Mathlib.Omega.{arith}
use lib.ListN.{length, set, length-append, length-drop, length-set}
use lib.Seq.{drop-cons, set_at}
use Rattle.laws.specs.Ranges.{overlay}

module _ {A : Type 0} where
  -- c elements are written, and then one more
  pub overlay_next : (p t₀ : List A) {t : List A} (c : ℕ) (v : A) → t ≡ overlay p t₀ → c ≡ length p → c < length t₀ → set t c v ≡ overlay (p ++ (v ∷ [])) t₀
  overlay_next p t₀ {t} c v e q h =
      rw (e, length-append, ← q, drop-cons t₀ c v h, set_at p _ _ v c (sym q), append_assoc, add-one)

  -- the length stays
  pub overlay_length : (p t : List A) → length p ≤ length t → length (overlay p t) ≡ length t
  overlay_length p t h = simp (length-append, length-drop) (omega arith)

  -- and so does that of a list t that is v after a store, or as it was
  pub stored_length : (t : List A) {v : List A} (c : ℕ) (a : A) {n : ℕ} → v ≡ set t c a → length t ≡ n → length v ≡ n
  stored_length t c a e h = ap length e ∙ length-set t c a ∙ h

  pub kept_length : {t v : List A} {n : ℕ} → v ≡ t → length t ≡ n → length v ≡ n
  kept_length e h = ap length e ∙ h
