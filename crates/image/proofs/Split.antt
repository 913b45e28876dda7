-- The layout taken apart: the first wrong byte of a record is that of its first part that has one. Assumes nothing.
use Prim.Native.Nat.{ℕ, ◌+◌, ◌<◌}
use mathlib.Core.Path.{◌≡◌, refl, ◌∙◌, ap, ap₂}
use mathlib.Core.Bool.{Bool, cond, or-false}
use mathlib.Core.List.{List}
use Rattle.std.specs.declared.option.Option.{Option}
use Rattle.std.specs.declared.option.Option.TheVariants.{None, Some}
use native.Mathlib.Nat.{add-zero}
use borrow.Author.Tests.{eq-eqb, ne_eqb, le-leb, lt-leb}
use lib.Dec.{ltb}
use native.Mathlib.Omega.{arith}
use Rattle.laws.specs.Options.{or_else}
use Rattle.laws.specs.Ranges.{first_from}
use Rattle.laws.proofs.FirstFrom.{from_same, from_split, or_assoc}
use Rattle.rules.specs.Bytes.{byte}
use Rattle.rules.specs.Layout.{filled, id_wrong, ids_wrong, exponent_wrong, kind_wrong, row_wrong}
use Rattle.image.specs.Shown.{marks_wrong}
use Rattle.image.proofs.Within.{id_before, id_past, ids_past, exponent_before, exponent_past}

-- three parts of a range, with a test for each
three : (t a b c : ℕ → Bool) (p n m k : ℕ)
    → ((i : ℕ) → i < n → t (p + i) ≡ a (p + i))
    → ((i : ℕ) → i < m → t (p + n + i) ≡ b (p + n + i))
    → ((i : ℕ) → i < k → t (p + (n + m) + i) ≡ c (p + (n + m) + i))
    → first_from t p (n + m + k) ≡ or_else (first_from a p n) (or_else (first_from b (p + n) m) (first_from c (p + (n + m)) k))
three t a b c p n m k f g h =
    from_split t p (n + m) k
    ∙ ap₂ or_else (from_split t p n m ∙ ap₂ or_else (from_same t p a n f) (from_same t (p + n) b m g)) (from_same t (p + (n + m)) c k h)
    ∙ or_assoc (first_from a p n) (first_from b (p + n) m) (first_from c (p + (n + m)) k)

module _ (s : List ℕ) (p : ℕ) where
  pub ids_split : first_from (ids_wrong s p) p 96 ≡ or_else (first_from (id_wrong s p) p 32) (or_else (first_from (id_wrong s (p + 32)) (p + 32) 32) (first_from (id_wrong s (p + 64)) (p + 64) 32))
  unfolding ids_wrong
  ids_split =
      three (ids_wrong s p) (id_wrong s p) (id_wrong s (p + 32)) (id_wrong s (p + 64)) p 32 32 32
      (λ i h. rw (id_before s (p + 32) (p + i) (omega arith), id_before s (p + 64) (p + i) (omega arith), or-false, or-false))
      (λ i h. rw (id_past s p (p + 32 + i) (omega arith), id_before s (p + 64) (p + 32 + i) (omega arith), or-false))
      (λ i h. rw (id_past s p (p + 64 + i) (omega arith), id_past s (p + 32) (p + 64 + i) (omega arith)))

-- one place
pub from_one : (t : ℕ → Bool) (q : ℕ) → first_from t q 1 ≡ cond (t q) (Some q) None
unfolding first_from
from_one t q = rw (add-zero q)

module _ (s : List ℕ) (q a b : ℕ) where
  at_first : marks_wrong s q a b q ≡ ltb a (byte s q)
  unfolding marks_wrong
  at_first = rw (eq-eqb q q refl, ne_eqb q (q + 1) (λ e. omega arith), lt-leb (q + 2) q (omega arith), or-false, or-false)

  at_second : marks_wrong s q a b (q + 1) ≡ ltb b (byte s (q + 1))
  unfolding marks_wrong
  at_second = rw (ne_eqb (q + 1) q (λ e. omega arith), eq-eqb (q + 1) (q + 1) refl, lt-leb (q + 2) (q + 1) (omega arith), or-false)

  at_unnamed : (i : ℕ) → marks_wrong s q a b (q + 2 + i) ≡ filled s (q + 2 + i)
  unfolding marks_wrong
  at_unnamed i = rw (ne_eqb (q + 2 + i) q (λ e. omega arith), ne_eqb (q + 2 + i) (q + 1) (λ e. omega arith), le-leb (q + 2) (q + 2 + i) (omega arith))

  pub marks_split : first_from (marks_wrong s q a b) q 4 ≡ or_else (cond (ltb a (byte s q)) (Some q) None) (or_else (cond (ltb b (byte s (q + 1))) (Some (q + 1)) None) (first_from (filled s) (q + 2) 2))
  marks_split =
      three (marks_wrong s q a b) (marks_wrong s q a b) (marks_wrong s q a b) (filled s) q 1 1 2 (λ i h. refl) (λ i h. refl) (λ i h. at_unnamed i)
      ∙ ap₂ or_else (from_one (marks_wrong s q a b) q ∙ ap (λ (t : Bool). cond t (Some q) None) at_first)
      (ap (λ (o : Option ℕ). or_else o (first_from (filled s) (q + 2) 2)) (from_one (marks_wrong s q a b) (q + 1) ∙ ap (λ (t : Bool). cond t (Some (q + 1)) None) at_second))

module _ (s : List ℕ) (p : ℕ) where
  in_ids : (i : ℕ) → i < 96 → kind_wrong s p (p + i) ≡ ids_wrong s p (p + i)
  unfolding kind_wrong
  in_ids i h =
      rw (exponent_before s p (p + i) (omega arith), ne_eqb (p + i) (p + 144) (λ e. omega arith), ne_eqb (p + i) (p + 145) (λ e. omega arith), lt-leb (p + 146) (p + i) (omega arith))
      (simp or-false)

  in_exponents : (i : ℕ) → i < 48 → kind_wrong s p (p + 96 + i) ≡ exponent_wrong s p (p + 96 + i)
  unfolding kind_wrong
  in_exponents i h =
      rw (ids_past s p (p + 96 + i) (omega arith), ne_eqb (p + 96 + i) (p + 144) (λ e. omega arith), ne_eqb (p + 96 + i) (p + 145) (λ e. omega arith), lt-leb (p + 146) (p + 96 + i) (omega arith))
      (simp or-false)

  in_marks : (i : ℕ) → i < 4 → kind_wrong s p (p + 144 + i) ≡ marks_wrong s (p + 144) 1 3 (p + 144 + i)
  unfolding kind_wrong marks_wrong
  in_marks i h =
      let y : p + 144 + 1 ≡ p + 145 = omega arith in
      let z : p + 144 + 2 ≡ p + 146 = omega arith in
      rw (ids_past s p (p + 144 + i) (omega arith), exponent_past s p (p + 144 + i) (omega arith), y, z)

  pub kind_split : first_from (kind_wrong s p) p 148 ≡ or_else (first_from (ids_wrong s p) p 96) (or_else (first_from (exponent_wrong s p) (p + 96) 48) (first_from (marks_wrong s (p + 144) 1 3) (p + 144) 4))
  kind_split = three (kind_wrong s p) (ids_wrong s p) (exponent_wrong s p) (marks_wrong s (p + 144) 1 3) p 96 48 4 in_ids in_exponents in_marks

  in_row_ids : (i : ℕ) → i < 96 → row_wrong s p (p + i) ≡ ids_wrong s p (p + i)
  unfolding row_wrong
  in_row_ids i h =
      rw (ne_eqb (p + i) (p + 96) (λ e. omega arith), ne_eqb (p + i) (p + 97) (λ e. omega arith), lt-leb (p + 98) (p + i) (omega arith))
      (simp or-false)

  in_row_marks : (i : ℕ) → i < 4 → row_wrong s p (p + 96 + i) ≡ marks_wrong s (p + 96) 3 1 (p + 96 + i)
  unfolding row_wrong marks_wrong
  in_row_marks i h =
      let y : p + 96 + 1 ≡ p + 97 = omega arith in
      let z : p + 96 + 2 ≡ p + 98 = omega arith in
      rw (ids_past s p (p + 96 + i) (omega arith), y, z)

  pub row_split : first_from (row_wrong s p) p 100 ≡ or_else (first_from (ids_wrong s p) p 96) (first_from (marks_wrong s (p + 96) 3 1) (p + 96) 4)
  row_split =
      from_split (row_wrong s p) p 96 4
      ∙ ap₂ or_else (from_same (row_wrong s p) p (ids_wrong s p) 96 in_row_ids) (from_same (row_wrong s p) (p + 96) (marks_wrong s (p + 96) 3 1) 4 in_row_marks)
