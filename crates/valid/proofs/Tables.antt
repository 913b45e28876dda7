-- Which words are a table, from what the code's tests said in turn. Assumes nothing.
use Rattle.std.proofs.Common.{◌≡◌, ℕ, ◌+◌, ◌*◌, ◌/◌, ◌%◌, ◌≤◌, Bool, true, false, leb, List, length, sym, ap, ◌∙◌, zero-add, eq-eqb, ne_eqb, leb-true}
use mathlib.Core.Path.{fun_ext}
use Rattle.laws.specs.Ranges.{all}
use Rattle.laws.proofs.Cases.{and_left}
use Rattle.rules.specs.Table.{word, link_fine, head_fine, kind_fine, row_fine, is_table, are_rows}

-- ---- a table: h, k and r are the tests of head, kinds and rows; n and m the counts as they were read
module _ (t : List ℕ) {h : Bool} where
  pub head_wrong : h ≡ head_fine t → h ≡ false → false ≡ is_table t
  unfolding is_table
  head_wrong e p = rw (← e, p)

  -- a head that is fine says how many kinds there are at most
  pub few_told : {n : ℕ} → h ≡ head_fine t → h ≡ true → n ≡ word t 0 → n ≤ 240
  unfolding head_fine
  few_told {n} e p q = rw q (leb-true (word t 0) 240 (and_left (leb (word t 0) 240) (leb (word t 1) 400) (and_left _ (link_fine t (word t 2)) (and_left _ (link_fine t (word t 3)) (sym e ∙ p)))))

  module _ {n : ℕ} {k : Bool} where
    pub kinds_wrong : h ≡ head_fine t → h ≡ true → n ≡ word t 0 → k ≡ all (kind_fine t) n → k ≡ false → false ≡ is_table t
    unfolding is_table
    kinds_wrong e p q f x = rw (← e, p, ← q, ← f, x)

    pub rows_tell : {m : ℕ} {r : Bool} → h ≡ head_fine t → h ≡ true → n ≡ word t 0 → k ≡ all (kind_fine t) n → k ≡ true → m ≡ word t 1 → r ≡ all (λ i. row_fine t t (7696 + 4 * i)) m → r ≡ is_table t
    unfolding is_table
    rows_tell e p q f x w g = rw (← e, p, ← q, ← f, x, ← w) g

pub ruleset tables = (head_wrong, kinds_wrong, rows_tell)

-- ---- lent rows
module _ (t s : List ℕ) where
  pub lent_short : (length s % 4 ≡ 0 → ⊥) → false ≡ are_rows t s
  unfolding are_rows
  lent_short f = rw (ne_eqb (length s % 4) 0 f)

  pub lent_rows : {r : Bool} → length s % 4 ≡ 0 → r ≡ all (λ i. row_fine t s (0 + 4 * i)) (length s / 4) → r ≡ are_rows t s
  unfolding are_rows
  lent_rows {r} p e =
      let z : ◌≡◌ {A = ℕ → Bool} (λ i. row_fine t s (0 + 4 * i)) (λ i. row_fine t s (4 * i)) = fun_ext (λ i. ap (row_fine t s) (zero-add (4 * i))) in
      rw (eq-eqb (length s % 4) 0 p) (e ∙ ap (λ (f : ℕ → Bool). all f (length s / 4)) z)
