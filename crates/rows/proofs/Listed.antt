-- Rows of words, as records. Assumes nothing.
use Prim.Native.Nat.{ℕ, zero, suc, ◌+◌, ◌*◌, ◌/◌, ◌<◌, ◌≤◌}
use mathlib.Core.Path.{◌≡◌, refl, sym, ◌∙◌, ap}
use mathlib.Core.Bool.{Bool, false}
use mathlib.Core.List.{List}
use mathlib.Core.Logic.{⊎_elim}
use Rattle.std.specs.declared.option.Option.{Option}
use Rattle.std.specs.declared.option.Option.TheVariants.{None, Some}
use native.Mathlib.Nat.{le_of_suc-le-suc, eq-or-lt_of_le}
use native.Mathlib.Omega.{arith}
use lib.ListN.{length, get_or, take, length-take}
use lib.Seq.{get_or-take}
use borrow.Author.Tests.{lt-ltb, le-ltb, ne_eqb}
use Rattle.laws.specs.Options.{found}
use Rattle.laws.specs.Ranges.{first, tab}
use Rattle.laws.proofs.First.{first_same, first_below}
use Rattle.laws.proofs.Tab.{length_tab, tab_at}
use Rattle.dimension.specs.declared.grade.ProductOp.{ProductOp}
use Rattle.rules.specs.Table.{word, is_row, rows_of, index_or}
use Rattle.rows.specs.declared.Row.{Row}
use Rattle.rows.specs.Flat.{flat, blank}
use Rattle.rows.specs.Records.{idle, record_at, records}
use Rattle.rows.proofs.Words.{rows_flat, left_word, op_word_law, right_word, result_word}

module _ (s : List ℕ) (i : ℕ) where
  pub record_in : {a b c d : ℕ} → i < length s / 4 → a ≡ word s (4 * i) → b ≡ word s (4 * i + 1) → c ≡ word s (4 * i + 2) → d ≡ word s (4 * i + 3) → record { left = a; op = b; right = c; result = d } ≡ record_at s i
  unfolding record_at
  record_in h p q r w = rw (lt-ltb i (length s / 4) h, p, q, r, w)

  pub record_past : length s / 4 ≤ i → idle ≡ record_at s i
  unfolding record_at
  record_past h = rw (le-ltb i (length s / 4) h)

pub ruleset listing = (record_in, record_past)

-- ---- numbers from m on that all fail add nothing
first_more : (test : ℕ → Bool) (m n : ℕ) → m ≤ n → ((k : ℕ) → m ≤ k → k < n → test k ≡ false) → first test n ≡ first test m
unfolding first
first_more test m zero h f = let z : m ≡ zero = omega arith in rw z
first_more test m (suc n) h f =
    ⊎_elim
    (λ q. ap (first test) (sym q))
    (λ l. let p : first test n ≡ first test m = first_more test m n (le_of_suc-le-suc l) (λ k a b. f k a (omega arith)) in go (first test n) refl p (f n (le_of_suc-le-suc l) (omega arith)))
    (eq-or-lt_of_le h)
  where
    go : (o : Option ℕ) → first test n ≡ o → first test n ≡ first test m → test n ≡ false → first test (suc n) ≡ first test m
    go (Some i) p q e = rw (first, p) (sym p ∙ q)
    go None p q e = rw (first, p, e) (sym p ∙ q)

-- ---- the records are for what the words are for, up to 400 rows
module _ (s : List ℕ) where
  abbrev cut : List ℕ
  cut = take 1600 s

  few : length cut / 4 ≤ 400
  few = let p = length-take 1600 s in omega (arith, p)

  short : (i : ℕ) → i < length cut / 4 → i < length s / 4
  short i h = let p = length-take 1600 s in omega (arith, p, h)

  past : (i : ℕ) → length cut / 4 ≤ i → i < 400 → length s / 4 ≤ i
  past i h k = let p = length-take 1600 s in omega (arith, p, h, k)

  record_of : (i : ℕ) → i < 400 → get_or (records s) i blank ≡ record_at s i
  unfolding records
  record_of i h = tab_at (record_at s) 400 i blank h

  all_of : length (flat (records s)) / 4 ≡ 400
  unfolding records
  all_of = rows_flat (tab (record_at s) 400) ∙ length_tab (record_at s) 400

  module _ (i : ℕ) (h : i < length cut / 4) where
    here : get_or (records s) i blank ≡ record { left = word s (4 * i); op = word s (4 * i + 1); right = word s (4 * i + 2); result = word s (4 * i + 3) }
    here = record_of i (omega (arith, few, h)) ∙ sym (record_in s i (short i h) refl refl refl refl)

    same_left : word (flat (records s)) (4 * i) ≡ word cut (4 * i)
    same_left = left_word (records s) i ∙ ap (λ (x : Row). x.left) here ∙ sym (get_or-take 1600 s (4 * i) 0 (omega (arith, few, h)))

    same_op_law : word (flat (records s)) (4 * i + 1) ≡ word cut (4 * i + 1)
    same_op_law = op_word_law (records s) i ∙ ap (λ (x : Row). x.op) here ∙ sym (get_or-take 1600 s (4 * i + 1) 0 (omega (arith, few, h)))

    same_right : word (flat (records s)) (4 * i + 2) ≡ word cut (4 * i + 2)
    same_right = right_word (records s) i ∙ ap (λ (x : Row). x.right) here ∙ sym (get_or-take 1600 s (4 * i + 2) 0 (omega (arith, few, h)))

    same_result : word (flat (records s)) (4 * i + 3) ≡ word cut (4 * i + 3)
    same_result = result_word (records s) i ∙ ap (λ (x : Row). x.result) here ∙ sym (get_or-take 1600 s (4 * i + 3) 0 (omega (arith, few, h)))

  -- past the words no record is for a pair
  idle_left : (i : ℕ) → length cut / 4 ≤ i → i < 400 → word (flat (records s)) (4 * i) ≡ 65536
  idle_left i h k = left_word (records s) i ∙ ap (λ (x : Row). x.left) (record_of i k ∙ sym (record_past s i (past i h k)))

  module _ (l : ℕ) (op : ProductOp) (r : ℕ) (g : l < 65536) where
    same_row : (i : ℕ) → i < length cut / 4 → is_row (flat (records s)) l op r i ≡ is_row cut l op r i
    unfolding is_row
    same_row i h = rw (same_left i h, same_op_law i h, same_right i h)

    idle_row : (i : ℕ) → length cut / 4 ≤ i → i < 400 → is_row (flat (records s)) l op r i ≡ false
    unfolding is_row
    idle_row i h k = rw (idle_left i h k, ne_eqb 65536 l (λ e. omega (arith, e, g)))

    firsts : first (is_row (flat (records s)) l op r) 400 ≡ first (is_row cut l op r) (length cut / 4)
    firsts = first_more (is_row (flat (records s)) l op r) (length cut / 4) 400 few idle_row ∙ first_same (is_row (flat (records s)) l op r) (is_row cut l op r) (length cut / 4) same_row

    pub listed : rows_of (flat (records s)) l op r ≡ rows_of cut l op r
    unfolding rows_of
    listed = ap (λ (n : ℕ). found (first (is_row (flat (records s)) l op r) n) (λ i. index_or (word (flat (records s)) (4 * i + 3))) None) all_of
        ∙ ap (λ (o : Option ℕ). found o (λ i. index_or (word (flat (records s)) (4 * i + 3))) None) firsts ∙ named (first (is_row cut l op r) (length cut / 4)) refl
      where
        named : (o : Option ℕ) → first (is_row cut l op r) (length cut / 4) ≡ o → found o (λ i. index_or (word (flat (records s)) (4 * i + 3))) None ≡ found o (λ i. index_or (word cut (4 * i + 3))) None
        named None p = refl
        named (Some i) p = ap index_or (same_result i (first_below (is_row cut l op r) (length cut / 4) p))
