-- The words that a compilation writes, place by place. Assumes nothing.
use Prim.Native.Nat.{ℕ, ◌+◌, ◌-◌, ◌*◌, ◌/◌, ◌%◌, ◌<◌}
use mathlib.Core.Path.{◌≡◌, ◌∙◌}
use mathlib.Core.Bool.{true, false, cond}
use mathlib.Core.List.{List}
use native.Mathlib.Omega.{arith}
use lib.Dec.{ltb}
use lib.ListN.{length, get_or-append}
use borrow.Author.Tests.{lt-ltb, le-ltb}
use Rattle.laws.specs.Options.{is_some}
use Rattle.laws.specs.Ranges.{tab, below, overlay}
use Rattle.laws.proofs.Below.{below_in}
use Rattle.laws.proofs.Tab.{length_tab, tab_at}
use Rattle.dimension.specs.Integer as I
use Rattle.rules.specs.Catalog.{Catalog, link, difference_of, target_of, rate_among, role}
use Rattle.rules.specs.Table.{word, in_force, index_word, head_words, mark_words, exponent_of, exponent_word, kind_word, table_word, table_words}

-- t begins with the words of C
abbrev pub Holds : List ℕ → Catalog → Type 0
Holds t C = (i : ℕ) → i < 9296 → word t i ≡ table_word C i

pub written_holds : (C : Catalog) (old : List ℕ) → Holds (overlay (table_words C) old) C
unfolding table_words
written_holds C old i h =
    get_or-append (tab (table_word C) 9296) _ 0 i (rw (length_tab (table_word C) 9296) h)
    ∙ tab_at (table_word C) 9296 i 0 h

module _ (t : List ℕ) (C : Catalog) (holds : Holds t C) where
  -- ---- the head
  pub head_kinds : word t 0 ≡ C.kind_count
  unfolding table_word head_words
  head_kinds = holds 0 (omega arith)

  pub head_rows : word t 1 ≡ length (in_force C) / 4
  unfolding table_word head_words
  head_rows = holds 1 (omega arith)

  pub head_dimensionless : word t 2 ≡ index_word (link C C.dimensionless)
  unfolding table_word head_words
  head_dimensionless = holds 2 (omega arith)

  pub head_time : word t 3 ≡ index_word (link C C.time)
  unfolding table_word head_words
  head_time = holds 3 (omega arith)

  -- ---- kind k's words
  offset : (k f : ℕ) → f < 32 → (16 + 32 * k + f - 16) % 32 ≡ f
  offset k f h = omega arith

  which : (k f : ℕ) → f < 32 → (16 + 32 * k + f - 16) / 32 ≡ k
  which k f h = omega arith

  pub kind_word_law : (k f : ℕ) → k < 240 → k < C.kind_count → f < 32 → word t (16 + 32 * k + f) ≡ kind_word C k f
  unfolding table_word
  kind_word_law k f h l m =
      let a : ltb (16 + 32 * k + f) 16 ≡ false = le-ltb (16 + 32 * k + f) 16 (omega arith) in
      let b : ltb (16 + 32 * k + f) 7696 ≡ true = lt-ltb (16 + 32 * k + f) 7696 (omega arith) in
      let c : table_word C (16 + 32 * k + f) ≡ below C.kind_count 0 (λ k. kind_word C k f) k = rw (a, b, offset k f m, which k f m) in
      holds (16 + 32 * k + f) (omega arith) ∙ c ∙ below_in C.kind_count 0 (λ k. kind_word C k f) k l

  module _ (k : ℕ) (h : k < 240) (l : k < C.kind_count) where
    pub flag_word : word t (16 + 32 * k + 24) ≡ cond (is_some (C.kind k).dims) 1 0
    unfolding kind_word mark_words
    flag_word = kind_word_law k 24 h l (omega arith)

    pub grade_word : word t (16 + 32 * k + 25) ≡ (C.kind k).grade
    unfolding kind_word mark_words
    grade_word = kind_word_law k 25 h l (omega arith)

    pub role_word : word t (16 + 32 * k + 26) ≡ role C k
    unfolding kind_word mark_words
    role_word = kind_word_law k 26 h l (omega arith)

    pub difference_word : word t (16 + 32 * k + 27) ≡ index_word (difference_of C k)
    unfolding kind_word mark_words
    difference_word = kind_word_law k 27 h l (omega arith)

    pub target_word : word t (16 + 32 * k + 28) ≡ index_word (target_of C k)
    unfolding kind_word mark_words
    target_word = kind_word_law k 28 h l (omega arith)

    pub rate_word : word t (16 + 32 * k + 29) ≡ index_word (rate_among C C.kind_count k)
    unfolding kind_word mark_words
    rate_word = kind_word_law k 29 h l (omega arith)

    -- the exponent of base b
    pub num_word : (b : ℕ) → b < 12 → word t (16 + 32 * k + 2 * b) ≡ I.bits32 (exponent_of C k b).num
    unfolding kind_word exponent_word
    num_word b m =
        let a : ltb (2 * b) 24 ≡ true = lt-ltb (2 * b) 24 (omega arith) in
        let c : 2 * b / 2 ≡ b = omega arith in
        let d : 2 * b % 2 ≡ 0 = omega arith in
        kind_word_law k (2 * b) h l (omega arith) ∙ rw (a, c, d)

    pub den_word : (b : ℕ) → b < 12 → word t (16 + 32 * k + 2 * b + 1) ≡ (exponent_of C k b).den
    unfolding kind_word exponent_word
    den_word b m =
        let z : 16 + 32 * k + 2 * b + 1 ≡ 16 + 32 * k + (2 * b + 1) = omega arith in
        let a : ltb (2 * b + 1) 24 ≡ true = lt-ltb (2 * b + 1) 24 (omega arith) in
        let c : (2 * b + 1) / 2 ≡ b = omega arith in
        let d : (2 * b + 1) % 2 ≡ 1 = omega arith in
        rw z (kind_word_law k (2 * b + 1) h l (omega arith) ∙ rw (a, c, d))

  -- ---- the rows in force
  pub row_word : (i : ℕ) → i < 1600 → word t (7696 + i) ≡ word (in_force C) i
  unfolding table_word
  row_word i h =
      let a : ltb (7696 + i) 16 ≡ false = le-ltb (7696 + i) 16 (omega arith) in
      let b : ltb (7696 + i) 7696 ≡ false = le-ltb (7696 + i) 7696 (omega arith) in
      let c : 7696 + i - 7696 ≡ i = omega arith in
      holds (7696 + i) (omega arith) ∙ rw (a, b, c)
