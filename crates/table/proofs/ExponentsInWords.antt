-- Exponents in words: two words are equal just where the exponents that they stand for are (`same_ratio`); dimensions read (`dims_end`), compared
-- (`sames`) and written (`words_next`) pair by pair. Assumes nothing.
use Prim.Native.Nat.{ℕ, ◌+◌, ◌*◌, ◌/◌, ◌%◌, ◌<◌, ◌≤◌}
use mathlib.Core.Path.{◌≡◌, refl, sym, ◌∙◌, ap, ap₂}
use mathlib.Core.Bool.{Bool, true, false, true≢false, ◌&&◌}
use mathlib.Core.List.{List, [], ◌∷◌, ◌++◌}
use native.Mathlib.Nat.{le_antisymm}
use native.Mathlib.Numerals.{add-one}
use native.Mathlib.Omega.{arith}
use lib.Dec.{eqb}
use lib.ListN.{length, get_or, set, take, length-set}
use lib.Seq.{get_or-set_same, get_or-set_other, take-suc}
use borrow.Author.Tests.{eqb-true, eqb-false}
use Rattle.std.proofs.lemmas.List.{get_or_default}
use Rattle.laws.specs.Ranges.{tab}
use Rattle.laws.proofs.Tab.{tab_at, tab_same, fill_next, fill_end}
use Rattle.dimension.specs.Integer.{twos, bits32}
use Rattle.dimension.specs.Fraction as F
use Rattle.dimension.specs.Dimension as D
use Rattle.dimension.specs.declared.rational.Rational.{Rational}
use Rattle.dimension.specs.declared.dimensions.Dimensions.{Dimensions}
use Rattle.dimension.proofs.BitLaws.{bits_twos}
use Rattle.dimension.proofs.ExponentLaws as E
use Rattle.dimension.proofs.DimensionLaws as L
use Rattle.rules.specs.Table.{word, exponent_from, dims_from, exponent_word}
use Rattle.table.specs.Shown.{exponents_of}

-- ---- equality as a test, of exponents and of dimensions
differ : (a b : Rational) → (a ≡ b → ⊥) → false ≡ F.equal a b
differ a b f = go (F.equal a b) refl
  where
    go : (t : Bool) → F.equal a b ≡ t → false ≡ F.equal a b
    go true p = absurd (f (E.equal_same a b p))
    go false p = sym p

unlike : (a b : Dimensions) → (a ≡ b → ⊥) → false ≡ D.equal a b
unlike a b f = go (D.equal a b) refl
  where
    go : (t : Bool) → D.equal a b ≡ t → false ≡ D.equal a b
    go true p = absurd (f (L.equal_same a b p))
    go false p = sym p

-- ---- the exponent that two words stand for
abbrev ratio : ℕ → ℕ → Rational
ratio x d = F.ratio (twos 2147483648 x) d

pub same_ratio : (x d y e : ℕ) → x < 4294967296 → y < 4294967296 → (eqb x y && eqb d e) ≡ F.equal (ratio x d) (ratio y e)
same_ratio x d y e h k = go (eqb x y) refl (eqb d e) refl
  where
    same : x ≡ y → d ≡ e → true ≡ F.equal (ratio x d) (ratio y e)
    same p q = rw (← p, ← q) (sym (E.same_equal (ratio x d)))

    nums : ratio x d ≡ ratio y e → x ≡ y
    nums p = sym (bits_twos x h) ∙ ap (λ (a : Rational). bits32 a.num) p ∙ bits_twos y k

    go : (b : Bool) → eqb x y ≡ b → (c : Bool) → eqb d e ≡ c → (eqb x y && eqb d e) ≡ F.equal (ratio x d) (ratio y e)
    go true p true q = rw (p, q) (same (eqb-true x y p) (eqb-true d e q))
    go true p false q = rw (p, q) (differ (ratio x d) (ratio y e) (λ z. eqb-false d e q (ap (λ (a : Rational). a.den) z)))
    go false p c q = rw p (differ (ratio x d) (ratio y e) (λ z. eqb-false x y p (nums z)))

-- x and d are the words of exponent b from place p on, and from place 0 on
pub pair_at : (t : List ℕ) (p b : ℕ) {x d : ℕ} → x ≡ word t (p + 2 * b) → d ≡ word t (p + 2 * b + 1) → exponent_from t p b ≡ ratio x d
unfolding exponent_from
pair_at t p b e f = rw (← e, ← f)

pub pair_first : (t : List ℕ) (b : ℕ) {x d : ℕ} → x ≡ word t (2 * b) → d ≡ word t (2 * b + 1) → exponent_from t 0 b ≡ ratio x d
pair_first t b {x} {d} e f =
    let z : 0 + 2 * b ≡ 2 * b = omega arith in
    let p : x ≡ word t (0 + 2 * b) = rw z e in
    let q : d ≡ word t (0 + 2 * b + 1) = rw z f in
    pair_at t 0 b p q

-- the four words of exponent b, of those from place p of t and of those of w, compared
pub pair_same : (t : List ℕ) (p : ℕ) (w : List ℕ) (b : ℕ) {x d y e : ℕ} → x ≡ word t (p + 2 * b) → d ≡ word t (p + 2 * b + 1) → y ≡ word w (2 * b) → e ≡ word w (2 * b + 1) → x < 4294967296 → y < 4294967296 → (eqb x y && eqb d e) ≡ F.equal (exponent_from t p b) (exponent_from w 0 b)
pair_same t p w b {x} {d} {y} {e} q r u v h k = same_ratio x d y e h k ∙ ap₂ F.equal (sym (pair_at t p b q r)) (sym (pair_first w b u v))

-- ---- read: the powers of d are filled
pub dims_end : (t : List ℕ) (p i : ℕ) (d : Dimensions) → length d.powers ≡ 12 → i ≤ 12 → 12 ≤ i → take i d.powers ≡ tab (exponent_from t p) i → d ≡ dims_from t p
unfolding dims_from
dims_end t p i d l h k e = ap D.dimensions (fill_end (exponent_from t p) i 12 d.powers e l h k)

-- ---- compared: those from place p of t with those of w; q is the code's test of pair i
module _ (t : List ℕ) (p : ℕ) (w : List ℕ) where
  pub same_none : tab (exponent_from t p) 0 ≡ tab (exponent_from w 0) 0
  unfolding tab
  same_none = refl

  pub same_next : (i : ℕ) {q : Bool} → tab (exponent_from t p) i ≡ tab (exponent_from w 0) i → q ≡ F.equal (exponent_from t p i) (exponent_from w 0 i) → q ≡ true → tab (exponent_from t p) (i + 1) ≡ tab (exponent_from w 0) (i + 1)
  unfolding tab
  same_next i e x y =
      rw (add-one i, tab)
      (ap₂ (λ (l : List Rational) (a : Rational). l ++ (a ∷ [])) e (E.equal_same (exponent_from t p i) (exponent_from w 0 i) (sym x ∙ y)))

  pub same_here : (i : ℕ) {q : Bool} → i < 12 → q ≡ F.equal (exponent_from t p i) (exponent_from w 0 i) → q ≡ false → false ≡ D.equal (dims_from t p) (dims_from w 0)
  unfolding dims_from
  same_here i h x y = unlike (dims_from t p) (dims_from w 0) (λ z. clash (ap (λ (d : Dimensions). get_or d.powers i F.zero) z))
    where
      clash : get_or (tab (exponent_from t p) 12) i F.zero ≡ get_or (tab (exponent_from w 0) 12) i F.zero → ⊥
      clash z =
          let a : exponent_from t p i ≡ exponent_from w 0 i = sym (tab_at (exponent_from t p) 12 i F.zero h) ∙ z ∙ tab_at (exponent_from w 0) 12 i F.zero h in
          let b : true ≡ false = sym (E.same_equal (exponent_from t p i)) ∙ ap (λ (c : Rational). F.equal (exponent_from t p i) c) a ∙ sym x ∙ y in
          true≢false b

  pub same_end : (i : ℕ) → tab (exponent_from t p) i ≡ tab (exponent_from w 0) i → i ≤ 12 → 12 ≤ i → true ≡ D.equal (dims_from t p) (dims_from w 0)
  unfolding dims_from
  same_end i e h k =
      let z : i ≡ 12 = le_antisymm h k in
      let a : tab (exponent_from t p) 12 ≡ tab (exponent_from w 0) 12 = rw z at e in
      sym (L.same_equal (dims_from t p) (dims_from w 0) (ap D.dimensions a))

pub ruleset sames = (same_none, same_next, same_here, same_end)

-- ---- written: two words at a time, n and m those of exponent i
abbrev written : List ℕ → ℕ → ℕ → ℕ → List ℕ
written w i n m = set (set w (2 * i) n) (2 * i + 1) m

pub words_none : (w : List ℕ) (l : List Rational) → tab (exponent_from w 0) 0 ≡ take 0 l
unfolding tab
words_none w l = refl

module _ (w : List ℕ) (i n m : ℕ) (l : length w ≡ 24) (h : i < 12) where
  there : exponent_from (written w i n m) 0 i ≡ ratio n m
  unfolding exponent_from
  there =
      let z : 0 + 2 * i ≡ 2 * i = omega arith in
      let a : get_or (written w i n m) (2 * i) 0 ≡ n = get_or-set_other (set w (2 * i) n) (2 * i + 1) (2 * i) m 0 (λ e. omega arith) ∙ get_or-set_same w (2 * i) n 0 (omega arith) in
      let b : get_or (written w i n m) (2 * i + 1) 0 ≡ m = get_or-set_same (set w (2 * i) n) (2 * i + 1) m 0 (rw length-set (omega arith)) in
      let c : get_or (written w i n m) (0 + 2 * i) 0 ≡ n = rw z a in
      let d : get_or (written w i n m) (0 + 2 * i + 1) 0 ≡ m = rw z b in
      ap₂ ratio c d

  elsewhere : (j : ℕ) → j < i → exponent_from (written w i n m) 0 j ≡ exponent_from w 0 j
  unfolding exponent_from
  elsewhere j k =
      let other : (p : ℕ) → p < 2 * i → get_or (written w i n m) p 0 ≡ get_or w p 0 =
      λ p q. get_or-set_other (set w (2 * i) n) (2 * i + 1) p m 0 (λ e. omega arith) ∙ get_or-set_other w (2 * i) p n 0 (λ e. omega arith) in
      ap₂ ratio (other (0 + 2 * j) (omega arith)) (other (0 + 2 * j + 1) (omega arith))

  pub words_next : (p : List Rational) (x z : Rational) → length p ≡ 12 → x ≡ get_or p i z → twos 2147483648 n ≡ x.num → m ≡ x.den
      → tab (exponent_from w 0) i ≡ take i p → tab (exponent_from (written w i n m) 0) (i + 1) ≡ take (i + 1) p
  unfolding tab
  words_next p x z k y q r e =
      let v : ratio n m ≡ x = λ j. record { num = q j; den = r j } in
      rw (add-one i, take-suc p i z (omega arith))
      (ap₂ (λ (s : List Rational) (u : Rational). s ++ (u ∷ [])) (tab_same (exponent_from (written w i n m) 0) (exponent_from w 0) i elsewhere ∙ e) (there ∙ v ∙ y))

pub words_end : (w : List ℕ) (i : ℕ) (d : Dimensions) → length d.powers ≡ 12 → i ≤ 12 → 12 ≤ i → tab (exponent_from w 0) i ≡ take i d.powers → dims_from w 0 ≡ d
words_end w i d l h k e = sym (dims_end w 0 i d l h k (sym e))

-- and word by word
abbrev pub word_of : Dimensions → ℕ → ℕ
word_of d j = exponent_word (D.exponent d (j / 2)) j

pub bits_none : (d : Dimensions) → [] ≡ tab (word_of d) 0
unfolding tab
bits_none d = refl

module _ (d : Dimensions) (w : List ℕ) (i : ℕ) where
  pub bits_next : (n m : ℕ) (x z : Rational) → length w ≡ 24 → i < 12 → length d.powers ≡ 12 → x ≡ get_or d.powers i z → n < 4294967296 → twos 2147483648 n ≡ x.num → m ≡ x.den
      → take (2 * i) w ≡ tab (word_of d) (2 * i) → take (2 * (i + 1)) (written w i n m) ≡ tab (word_of d) (2 * (i + 1))
  unfolding exponent_word
  bits_next n m x z l h k y b q r e =
      let half : 2 * i / 2 ≡ i = omega arith in
      let half' : (2 * i + 1) / 2 ≡ i = omega arith in
      let even : 2 * i % 2 ≡ 0 = omega arith in
      let odd : (2 * i + 1) % 2 ≡ 1 = omega arith in
      let next : 2 * (i + 1) ≡ 2 * i + 1 + 1 = omega arith in
      let here : x ≡ D.exponent d i = y ∙ get_or_default d.powers i z F.zero (rw k h) in
      let u : n ≡ word_of d (2 * i) = rw (half, even, ← here, ← q) (sym (bits_twos n b)) in
      let v : m ≡ word_of d (2 * i + 1) = rw (half', odd, ← here) r in
      let first = fill_next (word_of d) (2 * i) 24 w e l (omega arith) u in
      rw next (fill_next (word_of d) (2 * i + 1) 24 (set w (2 * i) n) first (length-set w (2 * i) n ∙ l) (omega arith) v)

  pub bits_end : length w ≡ 24 → i ≤ 12 → 12 ≤ i → take (2 * i) w ≡ tab (word_of d) (2 * i) → w ≡ exponents_of d
  unfolding exponents_of
  bits_end l h k e = fill_end (word_of d) (2 * i) 24 w e l (omega arith) (omega arith)
