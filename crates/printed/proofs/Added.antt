-- Bytes put after those of a line. Assumes nothing.
use Prim.Native.Nat.{ℕ, ◌+◌, ◌<◌, ◌≤◌}
use mathlib.Core.Path.{◌≡◌, refl, sym, ◌∙◌, ap}
use mathlib.Core.List.{List, [], ◌∷◌, ◌++◌, append-nil, append_assoc}
use native.Mathlib.Omega.{arith}
use native.Mathlib.Numerals.{add-one}
use borrow.Author.Tests.{lt-ltb}
use lib.ListN.{length, get_or, replicate, take, length-append}
use lib.Seq.{take-suc, take_all}
use Rattle.laws.specs.Ranges.{overlay}
use Rattle.laws.proofs.Overlay.{overlay_next}
use Rattle.printed.specs.Shown.{written, with_byte, added}
use Rattle.printed.specs.declared.text.Line.{Line}

-- ---- byte by byte: the first i bytes of s are added
added_more : (l : Line) (a b : List ℕ) → added (added l a) b ≡ added l (a ++ b)
unfolding added
added_more l [] b = refl
added_more l (x ∷ a) b = added_more (with_byte l x) a b

pub added_none : (l : Line) → l ≡ added l []
unfolding added
added_none l = refl

module _ (l₀ : Line) (s : List ℕ) (i : ℕ) {l : Line} (e : l ≡ added l₀ (take i s)) where
  pub added_next : {v : Line} → i < length s → v ≡ with_byte l (get_or s i 0) → v ≡ added l₀ (take (i + 1) s)
  unfolding added
  added_next h g = g ∙ ap (λ (x : Line). with_byte x (get_or s i 0)) e ∙ added_more l₀ (take i s) (get_or s i 0 ∷ []) ∙ rw (add-one, take-suc s i 0 h)

  pub added_end : length s ≤ i → l ≡ added l₀ s
  added_end h = e ∙ ap (added l₀) (take_all i s h)

pub ruleset adds = (added_none, added_next, added_end)

-- ---- what was added to an empty line
written_more : (p xs : List ℕ) → length p + length xs ≤ 64 → added (written p) xs ≡ written (p ++ xs)
unfolding added with_byte
written_more p [] h = ap written (sym (append-nil p))
written_more p (x ∷ xs) h =
    let n = length-append p (x ∷ []) in
    rw (lt-ltb (length p) 64 (omega (arith, h)), overlay_next p (replicate 64 0) (length p) x refl refl (omega (arith, h)))
    (ap (λ (k : ℕ). added (record { bytes = overlay (p ++ (x ∷ [])) (replicate 64 0); length = k }) xs) (sym n) ∙ written_more (p ++ (x ∷ [])) xs (omega (arith, h, n)) ∙ ap written (append_assoc p (x ∷ []) xs))

pub added_blank : {l v : Line} (xs : List ℕ) → l ≡ written [] → v ≡ added l xs → length xs ≤ 64 → v ≡ written xs
added_blank xs e h g = h ∙ ap (λ (x : Line). added x xs) e ∙ written_more [] xs (omega (arith, g))

-- a line of five parts: a word, what is said first, a space, what is said next, a newline
on : (l : Line) (a b : List ℕ) {v w : Line} → v ≡ added l a → w ≡ added v b → w ≡ added l (a ++ b)
on l a b e h = h ∙ ap (λ (x : Line). added x b) e ∙ added_more l a b

pub five_parts : {l₀ l₁ l₂ l₃ l₄ l₅ : Line} (a b d : List ℕ) → length a ≤ 8 → length b ≤ 20 → length d ≤ 32
    → l₀ ≡ written [] → l₁ ≡ added l₀ a → l₂ ≡ added l₁ b → l₃ ≡ with_byte l₂ 32 → l₄ ≡ added l₃ d → l₅ ≡ with_byte l₄ 10 → l₅ ≡ written (a ++ b ++ (32 ∷ []) ++ d ++ (10 ∷ []))
unfolding added
five_parts {l₀} a b d A B D e₀ e₁ e₂ e₃ e₄ e₅ =
    let x₂ = on l₀ a b e₁ e₂ in
    let x₃ = on l₀ (a ++ b) (32 ∷ []) x₂ e₃ in
    let x₄ = on l₀ (a ++ b ++ (32 ∷ [])) d x₃ e₄ in
    let x₅ = on l₀ (a ++ b ++ (32 ∷ []) ++ d) (10 ∷ []) x₄ e₅ in
    added_blank (a ++ b ++ (32 ∷ []) ++ d ++ (10 ∷ [])) e₀ x₅ (simp length-append (omega (arith, A, B, D)))
