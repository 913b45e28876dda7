-- The words of a kind compared with those of dimensions, all at once: they are the same just where the dimensions are, and then flag, grade and
-- difference say whether the kind fits. Assumes nothing.
use Prim.Native.Nat.{ℕ, ◌+◌, ◌*◌, ◌/◌, ◌%◌, ◌<◌, ◌≤◌}
use mathlib.Core.Path.{◌≡◌, refl, sym, ◌∙◌, ap}
use mathlib.Core.Bool.{Bool, true, false, cond, not, ◌&&◌, and-false}
use mathlib.Core.List.{List}
use Rattle.std.specs.declared.option.Option.TheVariants.{None, Some}
use native.Mathlib.Omega.{arith}
use borrow.Author.Tests.{lt-ltb, le-ltb, ltb-true, ltb-false, le-leb, lt-leb, ne_eqb, eqb-true, eqb-false, not-true, not-false}
use lib.Dec.{eqb, ltb, leb}
use lib.ListN.{get_or}
use Rattle.laws.specs.Options.{is_some, found}
use Rattle.laws.specs.Ranges.{all, tab, below}
use Rattle.laws.proofs.All.{all_at, all_of, all_here}
use Rattle.laws.proofs.Cases.{and_left, and_right, and_both}
use Rattle.laws.proofs.Tab.{tab_at, tab_same}
use Rattle.dimension.specs.Fraction as F
use Rattle.dimension.specs.Dimension as D
use Rattle.dimension.specs.declared.rational.Rational.{Rational}
use Rattle.dimension.specs.declared.dimensions.Dimensions.{Dimensions}
use Rattle.dimension.proofs.ExponentLaws as E
use Rattle.dimension.proofs.DimensionLaws as L
use Rattle.rules.specs.Kinds as K
use Rattle.rules.specs.Table.{word, kinds_of, kinds_in, kind_place, index_or, exponent_from, dims_from}
use Rattle.table.proofs.ExponentsInWords.{pair_same}
use Rattle.fitting.specs.Shown.{at, same_word}

module _ (t : List ℕ) (p : ℕ) (w : List ℕ) (a : (i : ℕ) → word t i < 4294967296) (b : (i : ℕ) → word w i < 4294967296) where
  -- a pair of words is an exponent
  pair : (j : ℕ) → (same_word t p w (2 * j) && same_word t p w (2 * j + 1)) ≡ F.equal (exponent_from t p j) (exponent_from w 0 j)
  unfolding same_word
  pair j =
      let e : p + (2 * j + 1) ≡ p + 2 * j + 1 = omega arith in
      rw e (pair_same t p w j refl refl refl refl (a (p + 2 * j)) (b (2 * j)))

  exponents : all (same_word t p w) 24 ≡ true → (j : ℕ) → j < 12 → exponent_from t p j ≡ exponent_from w 0 j
  exponents e j h =
      let x = all_at (same_word t p w) 24 (2 * j) e (omega arith) in
      let y = all_at (same_word t p w) 24 (2 * j + 1) e (omega arith) in
      E.equal_same (exponent_from t p j) (exponent_from w 0 j) (sym (pair j) ∙ and_both x y)

  both : dims_from t p ≡ dims_from w 0 → (j : ℕ) → j < 12 → (same_word t p w (2 * j) && same_word t p w (2 * j + 1)) ≡ true
  unfolding dims_from
  both e j h =
      let x : get_or (tab (exponent_from t p) 12) j F.zero ≡ get_or (tab (exponent_from w 0) 12) j F.zero = ap (λ (d : Dimensions). get_or d.powers j F.zero) e in
      let y : exponent_from t p j ≡ exponent_from w 0 j = sym (tab_at (exponent_from t p) 12 j F.zero h) ∙ x ∙ tab_at (exponent_from w 0) 12 j F.zero h in
      pair j ∙ ap (λ (c : Rational). F.equal (exponent_from t p j) c) (sym y) ∙ E.same_equal (exponent_from t p j)

  words : dims_from t p ≡ dims_from w 0 → (i : ℕ) → i < 24 → same_word t p w i ≡ true
  words e i h = go (eqb (i % 2) 0) refl
    where
      go : (c : Bool) → eqb (i % 2) 0 ≡ c → same_word t p w i ≡ true
      go true q =
          let z : 2 * (i / 2) ≡ i = omega (arith, eqb-true (i % 2) 0 q) in
          rw z at (and_left (same_word t p w (2 * (i / 2))) (same_word t p w (2 * (i / 2) + 1)) (both e (i / 2) (omega arith)))
      go false q =
          let o = eqb-false (i % 2) 0 q in
          let z : 2 * (i / 2) + 1 ≡ i = omega arith in
          rw z at (and_right (same_word t p w (2 * (i / 2))) (same_word t p w (2 * (i / 2) + 1)) (both e (i / 2) (omega arith)))

  pub words_same : all (same_word t p w) 24 ≡ D.equal (dims_from t p) (dims_from w 0)
  unfolding dims_from
  words_same = go (all (same_word t p w) 24) refl (D.equal (dims_from t p) (dims_from w 0)) refl
    where
      go : (x : Bool) → all (same_word t p w) 24 ≡ x → (y : Bool) → D.equal (dims_from t p) (dims_from w 0) ≡ y → x ≡ y
      go true q true r = refl
      go false q false r = refl
      go true q false r = sym (L.same_equal (dims_from t p) (dims_from w 0) (ap D.dimensions (tab_same (exponent_from t p) (exponent_from w 0) 12 (exponents q)))) ∙ r
      go false q true r = sym q ∙ all_of (same_word t p w) 24 (words (L.equal_same (dims_from t p) (dims_from w 0) r))

-- ---- the whole kind
no_difference : (d : ℕ) → leb 65535 d ≡ not (is_some (index_or d))
no_difference d = go (ltb d 65535) refl
  where
    go : (x : Bool) → ltb d 65535 ≡ x → leb 65535 d ≡ not (is_some (index_or d))
    go true q = rw (q, lt-leb 65535 d (ltb-true d 65535 q))
    go false q = rw (q, le-leb 65535 d (ltb-false d 65535 q))

and_true : (b : Bool) → (b && true) ≡ b
and_true true = refl
and_true false = refl

in_turn : (s f e n : Bool) (d x : Dimensions) → s ≡ D.equal d x → (s && ((f && e) && n)) ≡ (n && (e && found (cond f (Some d) None) (λ y. D.equal y x) false))
in_turn s true true true d x p = and_true s ∙ p
in_turn s true true false d x p = and-false s
in_turn s true false true d x p = and-false s
in_turn s true false false d x p = and-false s
in_turn s false e n d x p = and-false s ∙ sym (ap (λ (b : Bool). n && b) (and-false e) ∙ and-false n)

-- n is the count
pub in_count : (t : List ℕ) (k : ℕ) {n : ℕ} → n ≡ (kinds_of t).count → k < n → k < kinds_in t
unfolding kinds_of
in_count t k e h = omega (arith, e)

-- b is whether the exponents are the same, u what flag, grade and difference say
module _ (t w : List ℕ) (g k : ℕ) (h : k < kinds_in t) {b : Bool} (e : b ≡ D.equal (dims_from t (kind_place k)) (dims_from w 0)) where
  together : (b && ((eqb (word t (kind_place k + 24)) 1 && eqb (word t (kind_place k + 25)) g) && leb 65535 (word t (kind_place k + 27)))) ≡ K.fits (kinds_of t) (at (dims_from w 0) g) k
  unfolding K.fits K.carries kinds_of below
  together =
      rw (no_difference (word t (kind_place k + 27)), lt-ltb k (kinds_in t) h)
      (in_turn b (eqb (word t (kind_place k + 24)) 1) (eqb (word t (kind_place k + 25)) g) (not (is_some (index_or (word t (kind_place k + 27))))) (dims_from t (kind_place k)) (dims_from w 0) e)

  pub exponents_differ : not b ≡ true → false ≡ K.fits (kinds_of t) (at (dims_from w 0) g) k
  exponents_differ p = rw (not-true b p) at together

  pub marks_say : {u : Bool} → not b ≡ false → u ≡ ((eqb (word t (kind_place k + 24)) 1 && eqb (word t (kind_place k + 25)) g) && leb 65535 (word t (kind_place k + 27))) → u ≡ K.fits (kinds_of t) (at (dims_from w 0) g) k
  marks_say p q = q ∙ rw (not-false b p) at together

-- ---- a word that differs: q is the code's test of it
past_kinds : (t : List ℕ) (x : K.Graded) (k : ℕ) → ltb k (kinds_in t) ≡ false → false ≡ K.fits (kinds_of t) x k
unfolding K.fits K.carries kinds_of below
past_kinds t x k e = rw e (sym (and-false (eqb 0 x.grade)))

count_is : (t : List ℕ) {n : ℕ} → n ≡ (kinds_of t).count → n ≡ kinds_in t
unfolding kinds_of
count_is t e = e

pub past_count : (t : List ℕ) (x : K.Graded) (k : ℕ) {n : ℕ} → n ≡ (kinds_of t).count → n ≤ k → false ≡ K.fits (kinds_of t) x k
past_count t x k e h = past_kinds t x k (le-ltb k (kinds_in t) (omega (arith, count_is t e)))

pub word_differs : (t w : List ℕ) (g k i : ℕ) {q : Bool} → ((j : ℕ) → word t j < 4294967296) → ((j : ℕ) → word w j < 4294967296) → i < 24 → q ≡ same_word t (kind_place k) w i → not q ≡ true → false ≡ K.fits (kinds_of t) (at (dims_from w 0) g) k
word_differs t w g k i {q} a b h e f = go (ltb k (kinds_in t)) refl
  where
    go : (x : Bool) → ltb k (kinds_in t) ≡ x → false ≡ K.fits (kinds_of t) (at (dims_from w 0) g) k
    go true l =
        let z : false ≡ D.equal (dims_from t (kind_place k)) (dims_from w 0) = all_here (same_word t (kind_place k) w) i 24 h e (not-true q f) ∙ words_same t (kind_place k) w a b in
        exponents_differ t w g k (ltb-true k (kinds_in t) l) z refl
    go false l = past_kinds t (at (dims_from w 0) g) k l

-- ---- the grade differs: v is the word that says it
pub grade_differs : (t : List ℕ) (d : Dimensions) (g k : ℕ) {v : ℕ} → v ≡ word t (kind_place k + 25) → (v ≡ g → ⊥) → false ≡ K.fits (kinds_of t) (at d g) k
unfolding K.fits K.carries kinds_of below
grade_differs t d g k {v} e f = go (ltb k (kinds_in t)) refl
  where
    go : (x : Bool) → ltb k (kinds_in t) ≡ x → false ≡ K.fits (kinds_of t) (at d g) k
    go true l = rw (l, ← e, ne_eqb v g f) (sym (and-false (not (is_some (index_or (word t (kind_place k + 27)))))))
    go false l = past_kinds t (at d g) k l
