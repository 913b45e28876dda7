-- A scan of rows in code, sixteen at a time, for an operation's word is the rules' look for the operation. Assumes nothing.
use Prim.Native.Nat.{ℕ, ◌+◌, ◌*◌, ◌/◌, ◌-◌, ◌≤◌}
use mathlib.Core.Path.{◌≡◌, refl, sym}
use mathlib.Core.Bool.{Bool, false}
use mathlib.Core.List.{List}
use Rattle.std.specs.declared.option.Option.{Option}
use Rattle.std.specs.declared.option.Option.TheVariants.{None, Some}
use native.Mathlib.Omega.{arith}
use lib.ListN.{length}
use Rattle.laws.specs.Options.{found, or_else, is_some}
use Rattle.laws.specs.Ranges.{first, first_from}
use Rattle.laws.proofs.Cases.{not_then}
use Rattle.laws.proofs.FirstFrom.{from_start, from_split, none_there}
use Rattle.dimension.specs.declared.grade.ProductOp.{ProductOp}
use Rattle.rules.specs.Kinds.{op_word}
use Rattle.rules.specs.Table.{is_row, rows_of, index_or, word}
use Rattle.table.specs.Shown.{left_is, row_for}
use Rattle.table.proofs.Spans.{fails_both}

module _ (s : List ℕ) (l : ℕ) (op : ProductOp) (r : ℕ) where
  by_word : rows_of s l op r ≡ found (first (row_for s l (op_word op) r) (length s / 4)) (λ i. index_or (word s (4 * i + 3))) None
  unfolding rows_of is_row row_for
  by_word = refl

  -- o is the operation's word, u the row that is found
  module _ {o : ℕ} {u : Option ℕ} (q : o ≡ op_word op) (e : u ≡ first (row_for s l o r) (length s / 4)) where
    pub row_here : {i w : ℕ} {v : Option ℕ} → u ≡ Some i → w ≡ word s (4 * i + 3) → v ≡ index_or w → v ≡ rows_of s l op r
    row_here p f a = rw (by_word, ← q, ← e, p, ← f) a

    pub row_none : u ≡ None → None ≡ rows_of s l op r
    row_none p = rw (by_word, ← q, ← e, p)

-- ---- sixteen rows of another left; b is whether one of them has it
module _ (s : List ℕ) (l o r : ℕ) where
  left_fails : (i : ℕ) → left_is s l i ≡ false → row_for s l o r i ≡ false
  unfolding left_is row_for
  left_fails i e = rw e

  pub passed_over : (i n : ℕ) {b : Bool} → b ≡ is_some (first_from (left_is s l) i n) → b ≡ false → None ≡ first_from (row_for s l o r) i n
  passed_over i n e p = sym (fails_both (left_is s l) (row_for s l o r) left_fails i n (none_there (first_from (left_is s l) i n) e (not_then p)))

-- ---- what a scan finds below i, and then in the m numbers from i on, u
module _ (test : ℕ → Bool) where
  more : (i m : ℕ) → first test (i + m) ≡ or_else (first test i) (first_from test i m)
  more i m =
      let z : 0 + i ≡ i = omega arith in
      let e : first_from test 0 (i + m) ≡ or_else (first_from test 0 i) (first_from test i m) = rw z at (from_split test 0 i m) in
      rw (from_start test (i + m), from_start test i) at e

  pub scan_here : (i m n : ℕ) {u : Option ℕ} {j : ℕ} → first test i ≡ None → i + m ≤ n → u ≡ first_from test i m → u ≡ Some j → Some j ≡ first test n
  scan_here i m n p h e q =
      let z : i + m + (n - (i + m)) ≡ n = omega arith in
      rw (← z, more (i + m) (n - (i + m)), more i m, p, ← e, q)

  pub scan_next : (i m : ℕ) {u : Option ℕ} → first test i ≡ None → u ≡ first_from test i m → u ≡ None → first test (i + m) ≡ None
  scan_next i m p e q = rw (more i m, p, ← e) q

  pub scan_rest : (i m n : ℕ) {u : Option ℕ} → first test i ≡ None → i + m ≡ n → u ≡ first_from test i m → u ≡ first test n
  scan_rest i m n p z e = rw (← z, more i m, p) e

pub ruleset blocks = (scan_here, scan_next, scan_rest)
