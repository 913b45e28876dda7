-- The words that a compilation writes are a table, and its own rows are rows of it: 40 is not said of them. Assumes nothing.
use Prim.Native.Nat.{ℕ, ◌+◌, ◌*◌, ◌/◌, ◌%◌, ◌<◌, ◌≤◌}
use mathlib.Core.Path.{◌≡◌, refl, ◌∙◌}
use mathlib.Core.Bool.{Bool, true, false, cond, true≢false, or_comm}
use mathlib.Core.List.{List}
use Rattle.std.specs.declared.option.Option.{Option}
use Rattle.std.specs.declared.option.Option.TheVariants.{None, Some}
use native.Mathlib.Nat.{le_trans}
use native.Mathlib.Omega.{arith}
use lib.Dec.{eqb, ltb, leb}
use lib.ListN.{length}
use borrow.Author.Tests.{lt-ltb, le-leb, eq-eqb}
use Rattle.laws.specs.Options.{is_some}
use Rattle.laws.specs.Ranges.{all}
use Rattle.laws.proofs.Cases.{and_both}
use Rattle.laws.proofs.All.{all_of}
use Rattle.laws.proofs.First.{first_below}
use Rattle.dimension.specs.Fraction as F
use Rattle.dimension.specs.Dimension as D
use Rattle.dimension.specs.declared.dimensions.Dimensions.{Dimensions}
use Rattle.dimension.proofs.ExponentLaws as E
use Rattle.rules.specs.Refusal.{absent}
use Rattle.rules.specs.Catalog.{Id, Catalog, blank, meant, link, difference_of, target_of, rate_among, is_difference, role}
use Rattle.rules.specs.Table.{word, index_word, exponent_from, is_kind, link_fine, head_fine, marks_fine, exponents_fine, kind_fine, row_fine, is_table, are_rows, own_rows, in_force}
use Rattle.guarantees.proofs.KindRules.{find_below}
use Rattle.guarantees.proofs.Written.{Holds, head_kinds, head_rows, head_dimensionless, head_time, flag_word, grade_word, role_word, difference_word, target_word, rate_word, row_word}
use Rattle.guarantees.proofs.ReadBack.{Fits, exponent_back}
use Rattle.guarantees.proofs.Entries.{in_four}
use Rattle.guarantees.proofs.EntriesIn.{RowIn, AllIn, entries_in_law}
use Rattle.guarantees.proofs.InForce.{own_rows_law}

module _ (t : List ℕ) (C : Catalog) (holds : Holds t C) (fit : Fits C) (long : 9296 ≤ length t) where
  is_kind_law : (k : ℕ) → k < C.kind_count → is_kind t k ≡ true
  is_kind_law k h = rw (head_kinds t C holds) (lt-ltb k C.kind_count h)

  link_fine_law : (o : Option ℕ) → ((k : ℕ) → o ≡ Some k → k < C.kind_count) → link_fine t (index_word o) ≡ true
  link_fine_law None h = or_comm (is_kind t absent) true
  link_fine_law (Some k) h = rw (is_kind_law k (h k refl))

  link_in : (id : Id) (k : ℕ) → link C id ≡ Some k → k < C.kind_count
  unfolding link
  link_in id k e = go (blank id) refl
    where
      go : (b : Bool) → blank id ≡ b → k < C.kind_count
      go true p = let h : None ≡ Some k = rw p at e in let z : true ≡ false = cc in absurd (true≢false z)
      go false p = find_below C id (rw p at e)

  rate_in : (k j : ℕ) → rate_among C C.kind_count k ≡ Some j → j < C.kind_count
  unfolding rate_among
  rate_in k j e = first_below (λ i. meant k (target_of C i)) C.kind_count e

  -- ---- the head
  few_rows : length (in_force C) / 4 ≤ 400
  few_rows = let g = in_four C C.row_count in few (length (in_force C)) g.0 C.row_count g.1 g.2 fit.rows
    where
      few : (n m c : ℕ) → n ≡ 4 * m → m ≤ 2 * c → c ≤ 200 → n / 4 ≤ 400
      few n m c p q r = omega arith

  head_fine_law : head_fine t ≡ true
  unfolding head_fine
  head_fine_law =
      let a : leb (word t 0) 240 ≡ true = rw (head_kinds t C holds) (le-leb C.kind_count 240 fit.kinds) in
      let b : leb (word t 1) 400 ≡ true = rw (head_rows t C holds) (le-leb (length (in_force C) / 4) 400 few_rows) in
      let c : link_fine t (word t 2) ≡ true = rw (head_dimensionless t C holds) (link_fine_law (link C C.dimensionless) (link_in C.dimensionless)) in
      let d : link_fine t (word t 3) ≡ true = rw (head_time t C holds) (link_fine_law (link C C.time) (link_in C.time)) in
      and_both (and_both (and_both a b) c) d

  -- ---- kinds
  module _ (k : ℕ) (h : k < C.kind_count) where
    m : k < 240
    m = le_trans h fit.kinds

    flag_small : ltb (word t (16 + 32 * k + 24)) 2 ≡ true
    flag_small = rw (flag_word t C holds k m h) (go (is_some (C.kind k).dims))
      where
        go : (b : Bool) → ltb (cond b 1 0) 2 ≡ true
        go true = refl
        go false = refl

    grade_small : ltb (word t (16 + 32 * k + 25)) 4 ≡ true
    grade_small = rw (grade_word t C holds k m h) (lt-ltb (C.kind k).grade 4 (omega (arith, fit.grade k)))

    role_small : ltb (word t (16 + 32 * k + 26)) 3 ≡ true
    unfolding role
    role_small = rw (role_word t C holds k m h) (go (is_some (difference_of C k)) (is_difference C k))
      where
        go : (a b : Bool) → ltb (cond a 1 (cond b 2 0)) 3 ≡ true
        go true b = refl
        go false true = refl
        go false false = refl

    -- "exactly the points have a difference"
    points_fine : cond (eqb (word t (16 + 32 * k + 26)) 1) (is_kind t (word t (16 + 32 * k + 27))) (eqb (word t (16 + 32 * k + 27)) absent) ≡ true
    unfolding role
    points_fine = rw (role_word t C holds k m h, difference_word t C holds k m h) (go (difference_of C k) refl (is_difference C k))
      where
        go : (o : Option ℕ) → difference_of C k ≡ o → (b : Bool)
            → cond (eqb (cond (is_some o) 1 (cond b 2 0)) 1) (is_kind t (index_word o)) (eqb (index_word o) absent) ≡ true
        go None p true = refl
        go None p false = refl
        go (Some d) p b = is_kind_law d (link_in (C.kind k).difference d p)

    marks_fine_law : marks_fine t (16 + 32 * k) ≡ true
    unfolding marks_fine
    marks_fine_law =
        let a : link_fine t (word t (16 + 32 * k + 28)) ≡ true = rw (target_word t C holds k m h) (link_fine_law (target_of C k) (link_in (C.kind k).rate_of)) in
        let b : link_fine t (word t (16 + 32 * k + 29)) ≡ true = rw (rate_word t C holds k m h) (link_fine_law (rate_among C C.kind_count k) (rate_in k)) in
        and_both (and_both (and_both (and_both (and_both flag_small grade_small) role_small) points_fine) a) b

    exponents_fine_law : exponents_fine t (16 + 32 * k) ≡ true
    unfolding exponents_fine
    exponents_fine_law = rw (flag_word t C holds k m h) (go (C.kind k).dims refl)
      where
        go : (o : Option Dimensions) → (C.kind k).dims ≡ o → cond (eqb (cond (is_some o) 1 0) 1) (all (λ b. F.declared (exponent_from t (16 + 32 * k) b)) 12) true ≡ true
        go None p = refl
        go (Some a) p =
            all_of (λ b. F.declared (exponent_from t (16 + 32 * k) b)) 12
            (λ b l. rw (exponent_back t C holds fit k b a h l p) (E.told_declared (D.exponent a b) ((fit.declared k a p).declared b l)))

    kind_fine_law : kind_fine t k ≡ true
    unfolding kind_fine
    kind_fine_law = and_both marks_fine_law exponents_fine_law

  -- ---- rows
  row_fine_law : (s : List ℕ) (p i : ℕ) → word s p ≡ word (in_force C) (4 * i) → word s (p + 1) ≡ word (in_force C) (4 * i + 1) → word s (p + 2) ≡ word (in_force C) (4 * i + 2)
      → word s (p + 3) ≡ word (in_force C) (4 * i + 3) → RowIn C (in_force C) i → row_fine t s p ≡ true
  unfolding row_fine
  row_fine_law s p i a b c d w =
      let e : is_kind t (word s p) ≡ true = rw a (is_kind_law (word (in_force C) (4 * i)) w.0) in
      let f : ltb (word s (p + 1)) 4 ≡ true = rw b (lt-ltb (word (in_force C) (4 * i + 1)) 4 w.1) in
      let g : is_kind t (word s (p + 2)) ≡ true = rw c (is_kind_law (word (in_force C) (4 * i + 2)) w.2) in
      let h : is_kind t (word s (p + 3)) ≡ true = rw d (is_kind_law (word (in_force C) (4 * i + 3)) w.3) in
      and_both (and_both (and_both e f) g) h

  quarter : (n m : ℕ) → n ≡ 4 * m → n / 4 ≡ m
  quarter n m e = omega arith

  abbrev forces : AllIn C (in_force C)
  forces = entries_in_law C C.row_count

  few_words : forces.0 ≤ 400
  few_words = rw (quarter (length (in_force C)) forces.0 forces.1) at few_rows

  table_row : (i : ℕ) → i < forces.0 → row_fine t t (7696 + 4 * i) ≡ true
  table_row i h =
      let l : i < 400 = le_trans h few_words in
      row_fine_law t (7696 + 4 * i) i (row_word t C holds (4 * i) (omega arith)) (at 1 l (omega arith)) (at 2 l (omega arith)) (at 3 l (omega arith)) (forces.2 i h)
    where
      at : (j : ℕ) → i < 400 → j < 4 → word t (7696 + 4 * i + j) ≡ word (in_force C) (4 * i + j)
      at j l k = let z : 7696 + 4 * i + j ≡ 7696 + (4 * i + j) = omega arith in rw z (row_word t C holds (4 * i + j) (omega arith))

  pub is_table_law : is_table t ≡ true
  unfolding is_table
  is_table_law =
      let a : all (kind_fine t) (word t 0) ≡ true = rw (head_kinds t C holds) (all_of (kind_fine t) C.kind_count kind_fine_law) in
      let z : word t 1 ≡ forces.0 = head_rows t C holds ∙ quarter (length (in_force C)) forces.0 forces.1 in
      let b : all (λ i. row_fine t t (7696 + 4 * i)) (word t 1) ≡ true = rw z (all_of (λ i. row_fine t t (7696 + 4 * i)) forces.0 table_row) in
      and_both (and_both head_fine_law a) b

  four_times : (n m : ℕ) → n ≡ 4 * m → n % 4 ≡ 0
  four_times n m e = omega arith

  pub are_rows_law : are_rows t (own_rows t) ≡ true
  unfolding are_rows
  are_rows_law =
      let s : List ℕ = in_force C in
      let a : eqb (length s % 4) 0 ≡ true = eq-eqb (length s % 4) 0 (four_times (length s) forces.0 forces.1) in
      let z : length s / 4 ≡ forces.0 = quarter (length s) forces.0 forces.1 in
      let b : all (λ i. row_fine t s (4 * i)) (length s / 4) ≡ true = rw z (all_of (λ i. row_fine t s (4 * i)) forces.0 (λ i h. row_fine_law s (4 * i) i refl refl refl refl (forces.2 i h))) in
      rw (own_rows_law t C holds fit long) (and_both a b)
