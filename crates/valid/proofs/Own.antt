-- A table's own rows, lent to a lookup, are rows over it. Assumes nothing.
use Rattle.std.proofs.Common.{◌≡◌, ℕ, ◌+◌, ◌*◌, ◌/◌, ◌%◌, ◌<◌, ◌≤◌, true, ◌&&◌, List, length, get_or, take, drop, ap, ◌∙◌, arith, length-drop, length-take-le, get_or-drop, get_or-take, eq-eqb}
use Rattle.laws.specs.Ranges.{all}
use Rattle.laws.proofs.All.{all_at, all_of}
use Rattle.laws.proofs.Cases.{and_right, and_both}
use Rattle.rules.specs.Table.{word, head_fine, kind_fine, row_fine, row_place, table_size, is_table, are_rows, own_rows}
use Rattle.valid.proofs.Tells.{table_rows_few}

-- n words of t from place p on
module _ (t : List ℕ) (p n : ℕ) where
  part_length : p + n ≤ length t → length (take n (drop p t)) ≡ n
  part_length h = length-take-le n (drop p t) (rw length-drop (omega arith))

  part_word : (j : ℕ) → j < n → get_or (take n (drop p t)) j 0 ≡ get_or t (p + j) 0
  part_word j h = get_or-take n (drop p t) j 0 h ∙ get_or-drop p t j 0

module _ (t : List ℕ) (e : is_table t ≡ true) where
  own_length : table_size ≤ length t → length (own_rows t) ≡ 4 * word t 1
  unfolding own_rows
  own_length h = let m = table_rows_few t e in part_length t 7696 (4 * word t 1) (omega arith)

  own_word : (j : ℕ) → j < 4 * word t 1 → word (own_rows t) j ≡ word t (7696 + j)
  unfolding own_rows
  own_word j h = part_word t 7696 (4 * word t 1) j h

  own_fine : (i : ℕ) → i < word t 1 → row_fine t (own_rows t) (4 * i) ≡ true
  unfolding is_table row_fine
  own_fine i h =
      let z : row_fine t t (row_place i) ≡ true = all_at (λ i. row_fine t t (row_place i)) (word t 1) i (and_right (head_fine t && all (kind_fine t) (word t 0)) (all (λ i. row_fine t t (row_place i)) (word t 1)) e) h in
      let a : word (own_rows t) (4 * i) ≡ word t (row_place i) = own_word (4 * i) (omega arith) in
      let b : word (own_rows t) (4 * i + 1) ≡ word t (row_place i + 1) = own_word (4 * i + 1) (omega arith) ∙ ap (word t) (omega arith) in
      let c : word (own_rows t) (4 * i + 2) ≡ word t (row_place i + 2) = own_word (4 * i + 2) (omega arith) ∙ ap (word t) (omega arith) in
      let d : word (own_rows t) (4 * i + 3) ≡ word t (row_place i + 3) = own_word (4 * i + 3) (omega arith) ∙ ap (word t) (omega arith) in
      rw (a, b, c, d) z

  pub own_rows_law : table_size ≤ length t → are_rows t (own_rows t) ≡ true
  unfolding are_rows
  own_rows_law h =
      let l = own_length h in
      let q : length (own_rows t) / 4 ≡ word t 1 = omega (arith, l) in
      and_both (eq-eqb (length (own_rows t) % 4) 0 (omega (arith, l))) (rw q (all_of (λ i. row_fine t (own_rows t) (4 * i)) (word t 1) own_fine))
