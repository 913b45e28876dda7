-- The header taken apart. Assumes nothing.
use Prim.Native.Nat.{ℕ, ◌+◌, ◌<◌, ◌≤◌}
use mathlib.Core.Path.{◌≡◌, refl, ◌∙◌, ap, ap₂}
use mathlib.Core.Bool.{Bool, false, cond, ◌&&◌, ◌||◌, or-false}
use mathlib.Core.List.{List}
use Rattle.std.specs.declared.option.Option.{Option}
use Rattle.std.specs.declared.option.Option.TheVariants.{None, Some}
use native.Mathlib.Omega.{arith}
use borrow.Author.Tests.{ne_eqb}
use lib.Dec.{ltb}
use Rattle.laws.specs.Options.{or_else}
use Rattle.laws.specs.Ranges.{first_from}
use Rattle.laws.proofs.FirstFrom.{from_same, from_split}
use Rattle.rules.specs.Layout.{row_count, filled, within, id_wrong, header_wrong}
use Rattle.image.specs.Shown.{counts_wrong}
use Rattle.image.proofs.Within.{within_before, within_past, within_in, id_before, id_past}
use Rattle.image.proofs.Split.{from_one}
use Rattle.image.proofs.Exponents.{nowhere}

pub or_none : (o : Option ℕ) → or_else o None ≡ o
or_none (Some i) = refl
or_none None = refl

-- a part with a test of its own, and one in which nothing is wrong
pub part : (t a : ℕ → Bool) (p n m : ℕ) → ((i : ℕ) → i < n → t (p + i) ≡ a (p + i)) → first_from t p (n + m) ≡ or_else (first_from a p n) (first_from t (p + n) m)
part t a p n m h = from_split t p n m ∙ ap (λ (o : Option ℕ). or_else o (first_from t (p + n) m)) (from_same t p a n h)

pub skip : (t : ℕ → Bool) (p n m : ℕ) → ((i : ℕ) → i < n → t (p + i) ≡ false) → first_from t p (n + m) ≡ first_from t (p + n) m
skip t p n m h = part t (λ i. false) p n m h ∙ ap (λ (o : Option ℕ). or_else o (first_from t (p + n) m)) (nowhere p n)

module _ (s : List ℕ) where
  -- nothing at i but what byte 8 and byte 10 are charged with
  plain : (i : ℕ) → within 2 2 i ≡ false → i < 12 → (i ≡ 8 → ⊥) → (i ≡ 10 → ⊥) → header_wrong s i ≡ false
  unfolding header_wrong
  plain i w h e f = rw (w, ne_eqb i 8 e, ne_eqb i 10 f, id_before s 12 i h, id_before s 44 i (omega arith), within_before 76 432 i (omega arith))

  in_type : (i : ℕ) → i < 2 → header_wrong s (2 + i) ≡ filled s (2 + i)
  unfolding header_wrong
  in_type i h =
      rw (within_in 2 2 (2 + i) (omega arith) (omega arith), ne_eqb (2 + i) 8 (λ e. omega arith), ne_eqb (2 + i) 10 (λ e. omega arith), id_before s 12 (2 + i) (omega arith), id_before s 44 (2 + i) (omega arith), within_before 76 432 (2 + i) (omega arith))
      (simp or-false)

  at_eight : header_wrong s 8 ≡ counts_wrong s
  unfolding header_wrong counts_wrong
  at_eight = rw (id_before s 12 8 (omega arith), id_before s 44 8 (omega arith)) (simp or-false)

  at_ten : header_wrong s 10 ≡ ltb 200 (row_count s)
  unfolding header_wrong
  at_ten = rw (id_before s 12 10 (omega arith), id_before s 44 10 (omega arith)) (simp or-false)

  abbrev T : ℕ → Bool
  T = header_wrong s

  abbrev one : Bool → ℕ → Option ℕ
  one t i = cond t (Some i) None

  pub counts_split : first_from T 0 12 ≡ or_else (first_from (filled s) 2 2) (or_else (one (counts_wrong s) 8) (one (ltb 200 (row_count s)) 10))
  counts_split =
      skip T 0 2 10 (λ i h. plain (0 + i) (within_before 2 2 (0 + i) (omega arith)) (omega arith) (λ e. omega arith) (λ e. omega arith))
      ∙ part T (filled s) 2 2 8 in_type
      ∙ ap (or_else (first_from (filled s) 2 2))
      (skip T 4 4 4 (λ i h. plain (4 + i) (within_past 2 2 (4 + i) (omega arith)) (omega arith) (λ e. omega arith) (λ e. omega arith))
      ∙ part T T 8 1 3 (λ i h. refl)
      ∙ ap₂ or_else (from_one T 8 ∙ ap (λ (t : Bool). one t 8) at_eight)
      (skip T 9 1 2 (λ i h. plain (9 + i) (within_past 2 2 (9 + i) (omega arith)) (omega arith) (λ e. omega arith) (λ e. omega arith))
      ∙ part T T 10 1 1 (λ i h. refl)
      ∙ ap₂ or_else (from_one T 10 ∙ ap (λ (t : Bool). one t 10) at_ten) (last_byte)
      ∙ or_none (one (ltb 200 (row_count s)) 10)))
    where
      last_byte : first_from T 11 1 ≡ None
      last_byte = from_one T 11 ∙ ap (λ (t : Bool). one t 11) (plain 11 refl (omega arith) (λ e. omega arith) (λ e. omega arith))

  past_counts : (i : ℕ) → 12 ≤ i → header_wrong s i ≡ (id_wrong s 12 i || id_wrong s 44 i || (within 76 432 i && filled s i))
  unfolding header_wrong
  past_counts i h = rw (within_past 2 2 i (omega arith), ne_eqb i 8 (λ e. omega arith), ne_eqb i 10 (λ e. omega arith))

  pub header_split : first_from T 0 512 ≡ or_else (first_from T 0 12) (or_else (first_from (id_wrong s 12) 12 32) (or_else (first_from (id_wrong s 44) 44 32) (first_from (filled s) 76 432)))
  header_split =
      part T T 0 12 500 (λ i h. refl)
      ∙ ap (or_else (first_from T 0 12))
      (part T (id_wrong s 12) 12 32 468 (λ i h. past_counts (12 + i) (omega arith) ∙ rw (id_before s 44 (12 + i) (omega arith), within_before 76 432 (12 + i) (omega arith)) (simp or-false))
      ∙ ap (or_else (first_from (id_wrong s 12) 12 32))
      (part T (id_wrong s 44) 44 32 436 (λ i h. past_counts (44 + i) (omega arith) ∙ rw (id_past s 12 (44 + i) (omega arith), within_before 76 432 (44 + i) (omega arith)) (simp or-false))
      ∙ ap (or_else (first_from (id_wrong s 44) 44 32))
      (part T (filled s) 76 432 4 (λ i h. past_counts (76 + i) (omega arith) ∙ rw (id_past s 12 (76 + i) (omega arith), id_past s 44 (76 + i) (omega arith), within_in 76 432 (76 + i) (omega arith) (omega arith)))
      ∙ ap (or_else (first_from (filled s) 76 432)) sum_bytes
      ∙ or_none (first_from (filled s) 76 432))))
    where
      sum_bytes : first_from T 508 4 ≡ None
      sum_bytes =
          from_same T 508 (λ i. false) 4
          (λ i h. past_counts (508 + i) (omega arith) ∙ rw (id_past s 12 (508 + i) (omega arith), id_past s 44 (508 + i) (omega arith), within_past 76 432 (508 + i) (omega arith)))
          ∙ nowhere 508 4
