-- What stands in the table's words: in the head, at a kind, past the kinds, at the rows in force. Assumes nothing.
use Prim.Native.Nat.{ℕ, ◌+◌, ◌-◌, ◌/◌, ◌%◌, ◌<◌, ◌≤◌}
use mathlib.Core.Path.{◌≡◌, ◌∙◌}
use native.Mathlib.Omega.{arith}
use borrow.Author.Tests.{lt-ltb, le-ltb}
use Rattle.laws.specs.Ranges.{below}
use Rattle.laws.proofs.Below.{below_in, below_past}
use Rattle.laws.proofs.Tab.{tab_at}
use Rattle.rules.specs.Catalog.{Catalog}
use Rattle.rules.specs.Table.{word, kind_place, row_place, table_size, in_force, head_words, kind_word, table_word, table_words}

module _ (C : Catalog) where
  -- each word of the table is the rule's
  pub word_at : (i : ℕ) → i < table_size → word (table_words C) i ≡ table_word C i
  unfolding table_words
  word_at i h = tab_at (table_word C) table_size i 0 h

  pub word_in_head : (i : ℕ) → i < 16 → table_word C i ≡ word (head_words C) i
  unfolding table_word
  word_in_head i h = rw (lt-ltb i 16 h)

  module _ (k f : ℕ) (h : k < 240) (l : f < 32) where
    among_kinds : table_word C (kind_place k + f) ≡ below C.kind_count 0 (λ j. kind_word C j f) k
    unfolding table_word
    among_kinds =
        let p : 16 ≤ kind_place k + f = omega arith in
        let q : kind_place k + f < 7696 = omega arith in
        let a : (kind_place k + f - 16) / 32 ≡ k = omega arith in
        let b : (kind_place k + f - 16) % 32 ≡ f = omega arith in
        rw (le-ltb (kind_place k + f) 16 p, lt-ltb (kind_place k + f) 7696 q, a, b)

    pub word_of_kind : k < C.kind_count → table_word C (kind_place k + f) ≡ kind_word C k f
    word_of_kind m = among_kinds ∙ below_in C.kind_count 0 (λ j. kind_word C j f) k m

    pub word_past_kinds : C.kind_count ≤ k → table_word C (kind_place k + f) ≡ 0
    word_past_kinds m = among_kinds ∙ below_past C.kind_count 0 (λ j. kind_word C j f) k m

  pub word_of_rows : (j : ℕ) → table_word C (row_place 0 + j) ≡ word (in_force C) j
  unfolding table_word
  word_of_rows j =
      let p : 16 ≤ 7696 + j = omega arith in
      let q : 7696 ≤ 7696 + j = omega arith in
      let a : 7696 + j - 7696 ≡ j = omega arith in
      rw (le-ltb (7696 + j) 16 p, le-ltb (7696 + j) 7696 q, a)
