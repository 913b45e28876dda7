-- The words of a list of row records: four a row. What the first row for a pair names, record by record. Assumes nothing.
use Prim.Native.Nat.{ℕ, zero, suc, ◌+◌, ◌*◌, ◌/◌, ◌%◌, ◌<◌, ◌≤◌}
use mathlib.Core.Path.{◌≡◌, refl, sym, ◌∙◌, ap}
use mathlib.Core.Bool.{Bool, true, false}
use mathlib.Core.List.{List, [], ◌∷◌}
use Rattle.std.specs.declared.option.Option.TheVariants.{None}
use native.Mathlib.Omega.{arith}
use lib.ListN.{length, get_or}
use Rattle.laws.specs.Ranges.{first, all}
use Rattle.laws.proofs.First.{first_next, first_here, first_end}
use Rattle.laws.proofs.All.{all_next, all_here, all_end}
use Rattle.dimension.specs.declared.grade.ProductOp.{ProductOp}
use Rattle.rules.specs.Table.{is_row, rows_of, index_or, word, row_fine, are_rows}
use Rattle.rows.specs.declared.Row.{Row}
use Rattle.rows.specs.Flat.{flat, blank}

pub length_flat : (ys : List Row) → length (flat ys) ≡ 4 * length ys
unfolding flat
length_flat [] = refl
length_flat (x ∷ xs) = let p : length (flat xs) ≡ 4 * length xs = length_flat xs in omega (arith, p)

pub rows_flat : (ys : List Row) → length (flat ys) / 4 ≡ length ys
rows_flat ys = omega (arith, length_flat ys)

-- word j of row i is the field that word j of the first row is
at : (j : ℕ) (f : Row → ℕ) → ((x : Row) (xs : List Row) → word (flat (x ∷ xs)) j ≡ f x) → f blank ≡ 0 → (ys : List Row) (i : ℕ) → word (flat ys) (4 * i + j) ≡ f (get_or ys i blank)
unfolding flat
at j f h z [] i = sym z
at j f h z (x ∷ xs) zero = let p : 4 * 0 + j ≡ j = omega arith in ap (word (flat (x ∷ xs))) p ∙ h x xs
at j f h z (x ∷ xs) (suc i) = let p : 4 * suc i + j ≡ suc (suc (suc (suc (4 * i + j)))) = omega arith in ap (word (flat (x ∷ xs))) p ∙ at j f h z xs i

module _ (ys : List Row) (i : ℕ) where
  pub left_word : word (flat ys) (4 * i) ≡ (get_or ys i blank).left
  unfolding flat
  left_word = let p : 4 * i ≡ 4 * i + 0 = omega arith in ap (word (flat ys)) p ∙ at 0 (λ x. x.left) (λ x xs. refl) refl ys i

  pub op_word_law : word (flat ys) (4 * i + 1) ≡ (get_or ys i blank).op
  unfolding flat
  op_word_law = at 1 (λ x. x.op) (λ x xs. refl) refl ys i

  pub right_word : word (flat ys) (4 * i + 2) ≡ (get_or ys i blank).right
  unfolding flat
  right_word = at 2 (λ x. x.right) (λ x xs. refl) refl ys i

  pub result_word : word (flat ys) (4 * i + 3) ≡ (get_or ys i blank).result
  unfolding flat
  result_word = at 3 (λ x. x.result) (λ x xs. refl) refl ys i

-- ---- a scan, record by record
module _ (ys : List Row) (l : ℕ) (op : ProductOp) (r : ℕ) (i : ℕ) where
  row_is : is_row (flat (get_or ys i blank ∷ [])) l op r 0 ≡ is_row (flat ys) l op r i
  unfolding is_row flat
  row_is = rw (left_word ys i, op_word_law ys i, right_word ys i)

  pub row_next : first (is_row (flat ys) l op r) i ≡ None → is_row (flat (get_or ys i blank ∷ [])) l op r 0 ≡ false → first (is_row (flat ys) l op r) (i + 1) ≡ None
  row_next p f = first_next (is_row (flat ys) l op r) i p row_is f

  pub row_here : first (is_row (flat ys) l op r) i ≡ None → i < length ys → is_row (flat (get_or ys i blank ∷ [])) l op r 0 ≡ true → index_or (get_or ys i blank).result ≡ rows_of (flat ys) l op r
  unfolding rows_of
  row_here p h t = rw (rows_flat ys, first_here (is_row (flat ys) l op r) i (length ys) h p row_is t, result_word ys i)

  pub row_end : first (is_row (flat ys) l op r) i ≡ None → i ≤ length ys → length ys ≤ i → None ≡ rows_of (flat ys) l op r
  unfolding rows_of
  row_end p h k = rw (rows_flat ys, first_end (is_row (flat ys) l op r) i (length ys) h k p)

-- ---- a test of each record
abbrev pub test : List ℕ → List Row → ℕ → Bool
test t ys j = row_fine t (flat ys) (4 * j)

module _ (t : List ℕ) (ys : List Row) (i : ℕ) where
  fine_is : are_rows t (flat (get_or ys i blank ∷ [])) ≡ test t ys i
  unfolding are_rows row_fine flat all
  fine_is = rw (left_word ys i, op_word_law ys i, right_word ys i, result_word ys i)

  whole_is : are_rows t (flat ys) ≡ all (test t ys) (length ys)
  unfolding are_rows
  whole_is = let p : length (flat ys) % 4 ≡ 0 = omega (arith, length_flat ys) in rw (rows_flat ys, p)

  pub fine_next : all (test t ys) i ≡ true → are_rows t (flat (get_or ys i blank ∷ [])) ≡ true → all (test t ys) (i + 1) ≡ true
  fine_next p e = all_next (test t ys) i p fine_is e

  pub fine_wrong : i < length ys → are_rows t (flat (get_or ys i blank ∷ [])) ≡ false → false ≡ are_rows t (flat ys)
  fine_wrong l e = all_here (test t ys) i (length ys) l fine_is e ∙ sym whole_is

  pub fine_end : all (test t ys) i ≡ true → i ≤ length ys → length ys ≤ i → true ≡ are_rows t (flat ys)
  fine_end p h k = all_end (test t ys) i (length ys) p h k ∙ sym whole_is
