-- Every row in force names kinds of the catalog. Assumes nothing.
use Prim.Native.Nat.{ℕ, zero, suc, ◌+◌, ◌-◌, ◌*◌, ◌<◌, ◌≤◌}
use mathlib.Core.Path.{◌≡◌, refl, ◌∙◌}
use mathlib.Core.Bool.{Bool, true, false, not, ◌&&◌}
use mathlib.Core.List.{List, [], ◌++◌}
use Rattle.std.specs.declared.option.Option.{Option}
use Rattle.std.specs.declared.option.Option.TheVariants.{None, Some}
use native.Mathlib.Nat.{not-suc-le-zero, le_of_suc-le-suc}
use native.Mathlib.Decide.{dec_le}
use native.Mathlib.Omega.{arith}
use lib.Dec.{eqb}
use lib.ListN.{length, length-append}
use Rattle.dimension.specs.declared.grade.ProductOp.{ProductOp}
use Rattle.dimension.specs.declared.grade.ProductOp.TheVariants.{Mul, Div, Dot, Wedge}
use Rattle.rules.specs.Kinds.{op_word}
use Rattle.rules.specs.Catalog.{Row, Catalog, find}
use Rattle.rules.specs.Table.{word, row_words, entries_of, entries_in}
use Rattle.guarantees.proofs.KindRules.{find_below}
use Rattle.guarantees.proofs.Entries.{front_word, back_word, zero_more}

module _ (C : Catalog) where
  -- row i of s: kinds, and an operation
  abbrev pub RowIn : List ℕ → ℕ → Type 0
  RowIn s i = (word s (4 * i) < C.kind_count) × (word s (4 * i + 1) < 4) × (word s (4 * i + 2) < C.kind_count) × (word s (4 * i + 3) < C.kind_count)

  abbrev pub AllIn : List ℕ → Type 0
  AllIn s = (m : ℕ) × (length s ≡ 4 * m) × ((i : ℕ) → i < m → RowIn s i)

  op_small : (op : ProductOp) → op_word op < 4
  op_small Mul = omega arith
  op_small Div = omega arith
  op_small Dot = omega arith
  op_small Wedge = omega arith

  none_in : AllIn []
  none_in = (0, refl, λ i h. absurd (not-suc-le-zero h))

  one_in : (a b k : ℕ) (op : ProductOp) → a < C.kind_count → b < C.kind_count → k < C.kind_count → AllIn (row_words a op b k)
  one_in a b k op p q r = (1, refl, at)
    where
      at : (i : ℕ) → i < 1 → RowIn (row_words a op b k) i
      at zero h = (p, op_small op, q, r)
      at (suc i) h = absurd (not-suc-le-zero (le_of_suc-le-suc h))

  join_in : (s e : List ℕ) → AllIn s → AllIn e → AllIn (s ++ e)
  join_in s e a b = (a.0 + b.0, length-append s e ∙ omega (arith, a.1, b.1), at)
    where
      at : (i : ℕ) → i < a.0 + b.0 → RowIn (s ++ e) i
      at i h = go (dec_le a.0 i)
        where
          go : Dec (a.0 ≤ i) → RowIn (s ++ e) i
          go (no f) =
              let l : i < a.0 = omega arith in
              let w = a.2 i l in
              let z = rw (zero_more i) at (front_word s e a.0 a.1 i 0 l (omega arith)) in
              (rw z w.0, rw (front_word s e a.0 a.1 i 1 l (omega arith)) w.1, rw (front_word s e a.0 a.1 i 2 l (omega arith)) w.2, rw (front_word s e a.0 a.1 i 3 l (omega arith)) w.3)
          go (yes f) =
              let j : ℕ = i - a.0 in
              let y : i ≡ a.0 + j = omega arith in
              let w = b.2 j (omega arith) in
              let z = rw (zero_more j, zero_more (a.0 + j)) at (back_word s e a.0 a.1 j 0) in
              rw y (rw z w.0, rw (back_word s e a.0 a.1 j 1) w.1, rw (back_word s e a.0 a.1 j 2) w.2, rw (back_word s e a.0 a.1 j 3) w.3)

  of_in : (x : Row) → AllIn (entries_of C x)
  unfolding entries_of
  of_in x = go (find C x.left) refl (find C x.right) refl (find C x.result) refl
    where
      go : (a : Option ℕ) → find C x.left ≡ a → (b : Option ℕ) → find C x.right ≡ b → (c : Option ℕ) → find C x.result ≡ c → AllIn (entries_of C x)
      go None p b q c s = rw p none_in
      go (Some a) p None q c s = rw (p, q) none_in
      go (Some a) p (Some b) q None s = rw (p, q, s) none_in
      go (Some a) p (Some b) q (Some c) s = last (x.commutative && not (eqb a b)) refl
        where
          ha : a < C.kind_count
          ha = find_below C x.left p

          hb : b < C.kind_count
          hb = find_below C x.right q

          hc : c < C.kind_count
          hc = find_below C x.result s

          last : (t : Bool) → (x.commutative && not (eqb a b)) ≡ t → AllIn (entries_of C x)
          last true u = rw (p, q, s, u) (join_in (row_words a x.op b c) (row_words b x.op a c) (one_in a b c x.op ha hb hc) (one_in b a c x.op hb ha hc))
          last false u = rw (p, q, s, u) (one_in a b c x.op ha hb hc)

  pub entries_in_law : (n : ℕ) → AllIn (entries_in C n)
  unfolding entries_in
  entries_in_law zero = none_in
  entries_in_law (suc n) = join_in (entries_in C n) (entries_of C (C.row n)) (entries_in_law n) (of_in (C.row n))
