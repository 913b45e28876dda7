-- The exponents of all kinds are whole numbers exactly if what is gathered of their words says so. Assumes nothing.
use Rattle.std.proofs.Common.{◌≡◌, ℕ, ◌+◌, ◌*◌, ◌%◌, ◌<◌, ◌≤◌, Bool, true, false, cond, ◌&&◌, ◌||◌, eqb, ltb, leb, List, length, sym, refl, ◌∙◌, arith, ltb-false, ltb-true, le-ltb, lt-ltb, eqb-true, le-leb, leb-false, leb-true}
use mathlib.Core.Bool.{and-true}
use lib.Bits.{bit_or}
use borrow.Author.Tests.{eqb-false}
use Rattle.laws.specs.Ranges.{all}
use Rattle.laws.proofs.All.{all_at}
use Rattle.laws.proofs.Cases.{and_both}
use Rattle.dimension.specs.Fraction as F
use Rattle.rules.specs.Table.{word, kind_place, exponent_from, marks_fine, exponents_fine, kind_fine}
use Rattle.joined.specs.Shown.{whole_at, whole_from}
use Rattle.joined.proofs.Wholes.{all_whole_fine}
use Rattle.valid.specs.Shown.{ors, raised}
use Rattle.valid.proofs.Joint.{all_and, all_same, all_pairs}
use Rattle.valid.proofs.Ors.{or_below, ors_below, none_below}

-- ---- one word
module _ (x : ℕ) (h : x < 4294967296) where
  num_test : ltb ((x + 32768) % 4294967296) 65536 ≡ (ltb x 32768 || leb 4294934528 x)
  num_test = go (ltb x 32768) refl (leb 4294934528 x) refl
    where
      go : (a : Bool) → ltb x 32768 ≡ a → (b : Bool) → leb 4294934528 x ≡ b → ltb ((x + 32768) % 4294967296) 65536 ≡ (ltb x 32768 || leb 4294934528 x)
      go true p b q = rw p (lt-ltb ((x + 32768) % 4294967296) 65536 (omega (arith, ltb-true x 32768 p)))
      go false p true q = rw (p, q) (lt-ltb ((x + 32768) % 4294967296) 65536 (omega (arith, leb-true 4294934528 x q)))
      go false p false q = rw (p, q) (le-ltb ((x + 32768) % 4294967296) 65536 (omega (arith, ltb-false x 32768 p, leb-false 4294934528 x q)))

  den_test : ltb ((x + 4294967295) % 4294967296) 1 ≡ eqb x 1
  den_test = go (eqb x 1) refl
    where
      go : (a : Bool) → eqb x 1 ≡ a → ltb ((x + 4294967295) % 4294967296) 1 ≡ eqb x 1
      go true p = rw p (lt-ltb ((x + 4294967295) % 4294967296) 1 (omega (arith, eqb-true x 1 p)))
      go false p = rw p (le-ltb ((x + 4294967295) % 4294967296) 1 (far (eqb-false x 1 p)))
        where
          far : (x ≡ 1 → ⊥) → 1 ≤ (x + 4294967295) % 4294967296
          far f = omega (arith, f)

turned : (a b c d : Bool) → (a && c && (b && d)) ≡ (b && a && (d && c))
turned true true true true = refl
turned true true true false = refl
turned true true false true = refl
turned true true false false = refl
turned true false true d = refl
turned true false false d = refl
turned false true c d = refl
turned false false c d = refl

module _ (t : List ℕ) (w : (i : ℕ) → word t i < 4294967296) where
  -- ---- one exponent, whose words stand at u and v
  exponent_test : (p b u v : ℕ) → u ≡ p + 2 * b → v ≡ p + 2 * b + 1
      → (ltb ((word t v + 4294967295) % 4294967296) 1 && ltb ((word t u + 32768) % 4294967296) 65536) ≡ whole_at t p b
  unfolding whole_at
  exponent_test p b u v e f = rw (e, f, num_test (word t (p + 2 * b)) (w (p + 2 * b)), den_test (word t (p + 2 * b + 1)) (w (p + 2 * b + 1)))

  -- ---- one kind
  module _ (p : ℕ) where
    evens : (all (λ j. ltb (raised t 4294967295 (p + 1) j) 1) 6 && all (λ j. ltb (raised t 32768 p j) 65536) 6) ≡ all (λ j. whole_at t p (2 * j)) 6
    unfolding raised
    evens =
        all_and (λ j. ltb (raised t 4294967295 (p + 1) j) 1) (λ j. ltb (raised t 32768 p j) 65536) 6
        ∙ all_same _ (λ j. whole_at t p (2 * j)) 6 (λ j h. exponent_test p (2 * j) (p + 4 * j) (p + 1 + 4 * j) (omega arith) (omega arith))

    odds : (all (λ j. ltb (raised t 4294967295 (p + 3) j) 1) 6 && all (λ j. ltb (raised t 32768 (p + 2) j) 65536) 6) ≡ all (λ j. whole_at t p (2 * j + 1)) 6
    unfolding raised
    odds =
        all_and (λ j. ltb (raised t 4294967295 (p + 3) j) 1) (λ j. ltb (raised t 32768 (p + 2) j) 65536) 6
        ∙ all_same _ (λ j. whole_at t p (2 * j + 1)) 6 (λ j h. exponent_test p (2 * j + 1) (p + 2 + 4 * j) (p + 3 + 4 * j) (omega arith) (omega arith))

    abbrev g : ℕ → ℕ → ℕ
    g m q = ors (raised t m q) 6

    kind_test : (ltb (g 32768 p) 65536 && ltb (g 32768 (p + 2)) 65536 && (ltb (g 4294967295 (p + 1)) 1 && ltb (g 4294967295 (p + 3)) 1)) ≡ all (whole_at t p) 12
    kind_test =
        rw (ors_below 16 (raised t 32768 p) 6, ors_below 16 (raised t 32768 (p + 2)) 6, ors_below 0 (raised t 4294967295 (p + 1)) 6, ors_below 0 (raised t 4294967295 (p + 3)) 6)
        (turned (all (λ j. ltb (raised t 32768 p j) 65536) 6) (all (λ j. ltb (raised t 4294967295 (p + 1) j) 1) 6) (all (λ j. ltb (raised t 32768 (p + 2) j) 65536) 6) (all (λ j. ltb (raised t 4294967295 (p + 3) j) 1) 6)
        ∙ rw (evens, odds) (all_and (λ j. whole_at t p (2 * j)) (λ j. whole_at t p (2 * j + 1)) 6 ∙ all_pairs (whole_at t p) 6))

-- ---- all kinds: the bits of every fourth word from place p of each, m added, are in one number
abbrev pub fourth : List ℕ → ℕ → (ℕ → ℕ) → ℕ → ℕ
fourth t m p k = ors (raised t m (p k)) 6

abbrev pub second : ℕ → ℕ
second k = kind_place k + 1

abbrev pub third : ℕ → ℕ
third k = kind_place k + 2

abbrev pub last : ℕ → ℕ
last k = kind_place k + 3

module _ (t : List ℕ) (w : (i : ℕ) → word t i < 4294967296) (n : ℕ) {a b c d : ℕ} where
  pub wholly : a ≡ ors (fourth t 32768 kind_place) n → b ≡ ors (fourth t 4294967295 second) n → c ≡ ors (fourth t 32768 third) n → d ≡ ors (fourth t 4294967295 last) n
      → (ltb (bit_or a c) 65536 && eqb (bit_or b d) 0) ≡ all (λ k. all (whole_at t (kind_place k)) 12) n
  wholly e f o h =
      let x : ltb a 65536 ≡ all (λ k. ltb (fourth t 32768 kind_place k) 65536) n = rw e (ors_below 16 (fourth t 32768 kind_place) n) in
      let y : ltb b 1 ≡ all (λ k. ltb (fourth t 4294967295 second k) 1) n = rw f (ors_below 0 (fourth t 4294967295 second) n) in
      let u : ltb c 65536 ≡ all (λ k. ltb (fourth t 32768 third k) 65536) n = rw o (ors_below 16 (fourth t 32768 third) n) in
      let v : ltb d 1 ≡ all (λ k. ltb (fourth t 4294967295 last k) 1) n = rw h (ors_below 0 (fourth t 4294967295 last) n) in
      let l : ltb (bit_or a c) 65536 ≡ all (λ k. ltb (fourth t 32768 kind_place k) 65536 && ltb (fourth t 32768 third k) 65536) n = or_below 16 a c ∙ rw (x, u) (all_and _ _ n) in
      let r : eqb (bit_or b d) 0 ≡ all (λ k. ltb (fourth t 4294967295 second k) 1 && ltb (fourth t 4294967295 last k) 1) n = none_below (bit_or b d) ∙ or_below 0 b d ∙ rw (y, v) (all_and _ _ n) in
      rw (l, r) (all_and _ _ n ∙ all_same _ (λ k. all (whole_at t (kind_place k)) 12) n (λ k i. kind_test t w (kind_place k)))

-- ---- where they are, the marks are all that is left of a kind's test; v and m are what the code's two tests say
module _ (t : List ℕ) (w : (i : ℕ) → word t i < 4294967296) (n : ℕ) (h : 16 + 32 * n ≤ length t) where
  exponents_whole : all (λ k. all (whole_at t (kind_place k)) 12) n ≡ true → (k : ℕ) → k < n → exponents_fine t (kind_place k) ≡ true
  unfolding exponents_fine whole_from
  exponents_whole e k l =
      let z : whole_from t (kind_place k) ≡ true = and_both (le-leb (kind_place k + 24) (length t) (omega arith)) (all_at (λ k. all (whole_at t (kind_place k)) 12) n k e l) in
      let f : all (λ j. F.declared (exponent_from t (kind_place k) j)) 12 ≡ true = all_whole_fine t (kind_place k) w refl z in
      given (eqb (word t (kind_place k + 24)) 1) f
    where
      given : (b : Bool) {a : Bool} → a ≡ true → cond b a true ≡ true
      given true e = e
      given false e = refl

  pub marks_left : {v m : Bool} → v ≡ all (λ k. all (whole_at t (kind_place k)) 12) n → v ≡ true → m ≡ all (λ k. marks_fine t (kind_place k)) n → m ≡ all (kind_fine t) n
  unfolding kind_fine
  marks_left e p q = q ∙ all_same (λ k. marks_fine t (kind_place k)) (kind_fine t) n (λ k l. rw (exponents_whole (sym e ∙ p) k l) (sym (and-true (marks_fine t (kind_place k)))))
