-- Exponents that are whole numbers: they can be declared, and what the tests of them tell. Assumes nothing.
use Prim.Native.Nat.{ℕ, zero, suc, ◌+◌, ◌*◌, ◌<◌, ◌≤◌}
use mathlib.Core.Path.{◌≡◌, refl, sym, ◌∙◌, ap, ap₂, subst}
use mathlib.Core.Bool.{Bool, true, false, ◌&&◌, ◌||◌}
use mathlib.Core.List.{List}
use borrow.Author.Tests.{eqb-true, lt-leb, le-leb, ltb-true, ltb-false}
use native.Mathlib.Omega.{arith}
use lib.Dec.{eqb, ltb, leb}
use lib.ListN.{length, take, drop}
use Rattle.std.proofs.lemmas.List.{get_or-take, get_or-drop, get_or_past, length-take, length-drop}
use Rattle.std.specs.Array.{IsFirstChunk}
use Rattle.std.specs.Option.{MatchOption}
use Rattle.std.specs.declared.option.Option.{Option}
use Rattle.std.specs.declared.option.Option.TheVariants.{None, Some}
use Rattle.laws.specs.Options.{is_some}
use Rattle.laws.specs.Ranges.{all}
use Rattle.laws.proofs.All.{all_at, all_of}
use Rattle.laws.proofs.Cases.{and_left, and_right}
use Rattle.dimension.specs.Fraction as F
use Rattle.dimension.proofs.BitLaws.{whole_declared}
use Rattle.laws.proofs.Tab.{tab_same}
use Rattle.dimension.specs.Dimension as D
use Rattle.rules.specs.Table.{word, kinds_of, kind_place, exponent_from, dims_from}
use Rattle.table.proofs.Fields.{resolved_is}
use Rattle.joined.specs.Shown.{whole_at, whole_from, dims_at}

-- what twelve whole numbers tell: each is one, and all are there
pub whole_told : (t : List ℕ) (p : ℕ) → whole_from t p ≡ true → (j : ℕ) → j < 12 → whole_at t p j ≡ true
unfolding whole_from
whole_told t p e j h = all_at (whole_at t p) 12 j (and_right (leb (p + 24) (length t)) (all (whole_at t p) 12) e) h

module _ (t : List ℕ) (p : ℕ) (a : (i : ℕ) → word t i < 4294967296) where
  whole_fine : (j : ℕ) → whole_at t p j ≡ true → F.declared (exponent_from t p j) ≡ true
  unfolding whole_at exponent_from
  whole_fine j e =
      let one : Bool = eqb (word t (p + 2 * j + 1)) 1 in
      let small : Bool = ltb (word t (p + 2 * j)) 32768 || leb 4294934528 (word t (p + 2 * j)) in
      let z : word t (p + 2 * j + 1) ≡ 1 = eqb-true _ 1 (and_left one small e) in
      rw z (whole_declared (word t (p + 2 * j)) (a (p + 2 * j)) (and_right one small e))

  pub all_whole_fine : {v : Bool} → v ≡ whole_from t p → v ≡ true → all (λ j. F.declared (exponent_from t p j)) 12 ≡ true
  all_whole_fine e q = all_of (λ j. F.declared (exponent_from t p j)) 12 (λ j h. whole_fine j (whole_told t p (sym e ∙ q) j h))

-- ---- exponents cut out: w holds those from place p on
module _ (t : List ℕ) (p : ℕ) {w : List ℕ} (e : w ≡ take 24 (drop p t)) (b : ℕ) (h : b < 12) where
  first_word : word w (0 + 2 * b) ≡ word t (p + 2 * b)
  first_word =
      let z : 0 + 2 * b ≡ 2 * b = omega arith in
      rw (z, e) (get_or-take 24 (drop p t) (2 * b) 0 (omega arith) ∙ get_or-drop p t (2 * b) 0)

  second_word : word w (0 + 2 * b + 1) ≡ word t (p + 2 * b + 1)
  second_word =
      let z : 0 + 2 * b + 1 ≡ 2 * b + 1 = omega arith in
      let y : p + 2 * b + 1 ≡ p + (2 * b + 1) = omega arith in
      rw (z, y, e) (get_or-take 24 (drop p t) (2 * b + 1) 0 (omega arith) ∙ get_or-drop p t (2 * b + 1) 0)

  exponent_cut : exponent_from w 0 b ≡ exponent_from t p b
  unfolding exponent_from
  exponent_cut = rw (first_word, second_word)

  whole_cut : whole_at w 0 b ≡ whole_at t p b
  unfolding whole_at
  whole_cut = rw (first_word, second_word)

all_same : (f g : ℕ → Bool) (n : ℕ) → ((k : ℕ) → k < n → f k ≡ g k) → all f n ≡ all g n
unfolding all
all_same f g zero h = refl
all_same f g (suc n) h = ap₂ (λ (x y : Bool). x && y) (all_same f g n (λ k l. h k (omega arith))) (h n (omega arith))

module _ (t : List ℕ) (p : ℕ) where
  pub dims_cut : {w : List ℕ} → w ≡ take 24 (drop p t) → dims_from w 0 ≡ dims_from t p
  unfolding dims_from
  dims_cut {w} e = ap D.dimensions (tab_same (exponent_from w 0) (exponent_from t p) 12 (λ k h. exponent_cut t p e k h))

  pub not_there : length t < p + 24 → false ≡ whole_from t p
  unfolding whole_from
  not_there h = rw (lt-leb (p + 24) (length t) h)

  -- v is what the loop says
  pub all_there : (w : List ℕ) {v : Bool} → p + 24 ≤ length t → w ≡ take 24 (drop p t) → v ≡ all (whole_at w 0) 12 → v ≡ whole_from t p
  unfolding whole_from
  all_there w h e q = rw (le-leb (p + 24) (length t) h) (q ∙ all_same (whole_at w 0) (whole_at t p) 12 (λ k l. whole_cut t p e k l))

pub bits_cut : (t : List ℕ) (p : ℕ) {w : List ℕ} → w ≡ take 24 (drop p t) → ((i : ℕ) → word t i < 4294967296) → (i : ℕ) → word w i < 4294967296
bits_cut t p {w} e a i = rw e (go (ltb i 24) refl)
  where
    go : (b : Bool) → ltb i 24 ≡ b → word (take 24 (drop p t)) i < 4294967296
    go true q = rw (get_or-take 24 (drop p t) i 0 (ltb-true i 24 q), get_or-drop p t i 0) (a (p + i))
    go false q =
        let h : 24 ≤ i = ltb-false i 24 q in
        let l = length-take 24 (drop p t) in
        rw (get_or_past (take 24 (drop p t)) i 0 (omega (arith, h, l))) (omega arith)

-- d is what follows place p, o its first 24 words, if there are as many
pub words_found : {X : Type 0} (now : X → List ℕ) (t : List ℕ) (p : ℕ) (o : Option X) {d : List ℕ} → d ≡ drop p t → MatchOption o (length d < 24) (λ y. IsFirstChunk d (now y) 24) → MatchOption o (length t < p + 24) (λ y. (p + 24 ≤ length t) × (now y ≡ take 24 (drop p t)))
words_found now t p None e m =
    let n : length (drop p t) < 24 = subst (λ l. length l < 24) e m in
    omega (arith, length-drop p t)
words_found now t p (Some y) e m =
    let n : 24 ≤ length (drop p t) = subst (λ l. 24 ≤ length l) e m.enough in
    (omega (arith, length-drop p t), m.same ∙ ap (take 24) e)

-- b is whether the kind's dimensions are given
pub dims_whole : (t : List ℕ) (k : ℕ) {b : Bool} {w : List ℕ} → b ≡ is_some ((kinds_of t).dims k) → b ≡ true → w ≡ take 24 (drop (kind_place k) t) → dims_from w 0 ≡ dims_at (kinds_of t) k
dims_whole t k {b} {w} e p q = rw (resolved_is t k e p) (dims_cut t (kind_place k) q)

pub ruleset wholes = (not_there, all_there)
