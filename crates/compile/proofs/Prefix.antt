-- The words of the rows in force begin with the entries of the first n rows, for every n; and what a row enters. Assumes nothing.
use Prim.Native.Nat.{ℕ, zero, suc, ◌+◌, ◌-◌, ◌*◌, ◌<◌, ◌≤◌}
use mathlib.Core.Path.{◌≡◌, refl, sym, ◌∙◌, ap}
use mathlib.Core.Bool.{Bool, true, false, cond, not, ◌&&◌}
use mathlib.Core.List.{List}
use native.Mathlib.Nat.{le_trans}
use native.Mathlib.Omega.{arith}
use lib.Dec.{eqb}
use lib.ListN.{length, take, drop, replicate, length-append, length-replicate, get_or-append}
use lib.Seq.{ext_get_or, get_or-take, length-take-le}
use Rattle.laws.specs.Ranges.{overlay}
use Rattle.laws.proofs.Overlay.{overlay_length}
use Rattle.rules.specs.Catalog.{Catalog}
use Rattle.rules.specs.Table.{word, entries_of, entries_in, in_force}
use Rattle.guarantees.proofs.RowRules.{Accepted}
use Rattle.guarantees.proofs.Entries.{entries_are, in_four}
use Rattle.compile.specs.declared.rows.Row.{Row}
use Rattle.compile.specs.Rows.{row_asked}
use Rattle.compile.proofs.RowAsked.{asked_tells}
use Rattle.laws.specs.Out.{given}
use Rattle.std.specs.declared.option.Option.TheVariants.{Some}

some_same : {m n : ℕ} → Some m ≡ Some n → m ≡ n
some_same e = cc

module _ (C : Catalog) where
  -- ---- m rows more: what is entered stays in front
  grows : (n m : ℕ) → length (entries_in C n) ≤ length (entries_in C (n + m))
  unfolding entries_in
  grows n zero = let z : n + 0 ≡ n = omega arith in rw z (omega arith)
  grows n (suc m) =
      let z : n + suc m ≡ suc (n + m) = omega arith in
      rw (z, entries_in, length-append (entries_in C (n + m)) (entries_of C (C.row (n + m)))) (le_trans (grows n m) (omega arith))

  stays : (n m j : ℕ) → j < length (entries_in C n) → word (entries_in C (n + m)) j ≡ word (entries_in C n) j
  unfolding entries_in
  stays n zero j h = let z : n + 0 ≡ n = omega arith in rw z refl
  stays n (suc m) j h =
      let z : n + suc m ≡ suc (n + m) = omega arith in
      rw (z, entries_in) (get_or-append (entries_in C (n + m)) (entries_of C (C.row (n + m))) 0 j (le_trans h (grows n m)) ∙ stays n m j h)

  -- ---- the words of all rows, and zeros
  pub few_words : (n : ℕ) → length (entries_in C n) ≤ 8 * n
  few_words n = let g = in_four C n in omega (arith, g.1, g.2)

  module _ (few : C.row_count ≤ 200) {rows : List ℕ} (e : rows ≡ overlay (in_force C) (replicate 1600 0)) where
    pub rows_long : length rows ≡ 1600
    rows_long =
        let l : length (in_force C) ≤ length (replicate {A = ℕ} 1600 0) = rw (length-replicate {A = ℕ} 1600 0) (omega (arith, few_words C.row_count)) in
        ap length e ∙ overlay_length (in_force C) (replicate 1600 0) l ∙ length-replicate {A = ℕ} 1600 0

    module _ (n : ℕ) (h : n ≤ C.row_count) {used : ℕ} (u : used ≡ length (entries_in C n)) where
      pub used_in : used ≤ length rows
      used_in = omega (arith, u, few_words n, rows_long)

      front : (j : ℕ) → j < length (entries_in C n) → word rows j ≡ word (entries_in C n) j
      front j l =
          let z : n + (C.row_count - n) ≡ C.row_count = omega arith in
          let k : j < length (in_force C) = le_trans l (rw z at (grows n (C.row_count - n))) in
          ap (λ (t : List ℕ). word t j) e ∙ get_or-append (in_force C) (drop (length (in_force C)) (replicate 1600 0)) 0 j k ∙ rw z at (stays n (C.row_count - n) j l)

      -- as the code reads them: to the end of what is used
      pub used_front : take used rows ≡ entries_in C n
      used_front =
          let z : length (take used rows) ≡ length (entries_in C n) = length-take-le used rows used_in ∙ u in
          ext_get_or 0 (take used rows) (entries_in C n) z
          (λ j l. let b : j < length (entries_in C n) = rw z at l in get_or-take used rows j 0 (omega (arith, u, b)) ∙ front j b)

  -- ---- what an accepted row enters
  module _ (i : ℕ) (a : Accepted C i) where
    entered_words : length (entries_of C (C.row i)) ≡ cond ((C.row i).commutative && not (eqb a.left a.right)) 8 4
    entered_words = go ((C.row i).commutative && not (eqb a.left a.right)) refl
      where
        go : (t : Bool) → ((C.row i).commutative && not (eqb a.left a.right)) ≡ t → length (entries_of C (C.row i)) ≡ cond t 8 4
        go true p = rw (entries_are C i a true p)
        go false p = rw (entries_are C i a false p)

    pub used_next : {used w : ℕ} {x : Row} → used ≡ length (entries_in C i) → row_asked C i ≡ given x → w ≡ cond (x.commutative && not (eqb x.left x.right)) 8 4
        → used + w ≡ length (entries_in C (i + 1))
    unfolding entries_in
    used_next {used} {w} {x} u e f =
        let z : i + 1 ≡ suc i = omega arith in
        let t = asked_tells C i e in
        let l : x.left ≡ a.left = some_same (sym t.0 ∙ a.finds_left) in
        let r : x.right ≡ a.right = some_same (sym t.1 ∙ a.finds_right) in
        let c : x.commutative ≡ (C.row i).commutative = ap (λ (y : Row). y.commutative) t.3 in
        let y : w ≡ length (entries_of C (C.row i)) = f ∙ rw (c, l, r) (sym entered_words) in
        rw (z, entries_in, length-append (entries_in C i) (entries_of C (C.row i))) (omega (arith, u, y))

pub few_entered : (x : Row) {w : ℕ} → w ≡ cond (x.commutative && not (eqb x.left x.right)) 8 4 → w ≤ 8
few_entered x {w} e = go (x.commutative && not (eqb x.left x.right)) e
  where
    go : (t : Bool) → w ≡ cond t 8 4 → w ≤ 8
    go true p = omega (arith, p)
    go false p = omega (arith, p)
