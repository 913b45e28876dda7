-- The rows in force, as words, say what the catalog's rows say; and the table's own rows are these. Assumes nothing.
use Prim.Native.Nat.{ℕ, zero, suc, ◌+◌, ◌*◌, ◌/◌, ◌<◌, ◌≤◌}
use mathlib.Core.Path.{◌≡◌, refl, sym, ◌∙◌, ap, fun_ext}
use mathlib.Core.Bool.{Bool, true, false, cond, not, ◌&&◌, ◌||◌}
use mathlib.Core.List.{List, [], ◌++◌}
use Rattle.std.specs.declared.option.Option.{Option}
use Rattle.std.specs.declared.option.Option.TheVariants.{None, Some}
use native.Mathlib.Nat.{le_trans}
use native.Mathlib.Omega.{arith}
use lib.Dec.{eqb}
use lib.ListN.{length, take, drop, length-append, length-drop}
use lib.Seq.{ext_get_or, get_or-take, get_or-drop, length-take-le}
use borrow.Author.Tests.{lt-ltb}
use Rattle.laws.specs.Options.{found}
use Rattle.laws.specs.Ranges.{first}
use Rattle.laws.proofs.Cases.{and_left}
use Rattle.laws.proofs.First.{first_below, first_here, first_next}
use Rattle.dimension.specs.declared.grade.ProductOp.{ProductOp}
use Rattle.rules.specs.Refusal.{absent}
use Rattle.rules.specs.Catalog.{Catalog, find, covers, row_among}
use Rattle.rules.specs.Catalog as catalog
use Rattle.rules.specs.Table.{word, index_or, is_row, own_rows, entries_of, entries_in, in_force}
use Rattle.rules.specs.Table as table
use Rattle.guarantees.proofs.KindRules.{find_below}
use Rattle.guarantees.proofs.RowRules.{Accepted, row_tells}
use Rattle.guarantees.proofs.Compiles.{Passed}
use Rattle.guarantees.proofs.Written.{Holds, head_rows, row_word}
use Rattle.guarantees.proofs.ReadBack.{Fits}
use Rattle.guarantees.proofs.Entries.{front_word, front_first, longer, in_four, here, there, single, double, Agrees, entries_are, covers_once, covers_twice, first_entry, second_entry, first_result, second_result}

module _ (C : Catalog) (l : ℕ) (op : ProductOp) (r : ℕ) where
  -- ---- one row more
  among_on : (n : ℕ) {j : ℕ} → row_among C n l op r ≡ Some j → row_among C (suc n) l op r ≡ Some j
  unfolding row_among first
  among_on n e = rw e

  among_here : (n : ℕ) {t : Bool} → row_among C n l op r ≡ None → covers C l op r (C.row n) ≡ t → row_among C (suc n) l op r ≡ cond t (Some n) None
  unfolding row_among first
  among_here n e c = rw (e, c)

  module _ (n : ℕ) (a : Accepted C n) (s : List ℕ) (m : ℕ) (four : length s ≡ 4 * m) where
    -- a row was found already
    kept : (j : ℕ) (e : List ℕ) (k : ℕ) → Agrees C l op r (Some j) s m → Agrees C l op r (Some j) (s ++ e) (m + k)
    kept j e k h =
        let b : h.0 < m = first_below (is_row s l op r) m h.1 in
        (h.0, longer (is_row (s ++ e) l op r) m k (front_first l op r s e m four ∙ h.1), h.2 ∙ ap Some (sym (front_word s e m four h.0 3 b (omega arith))))

    module _ (none_yet : first (is_row s l op r) m ≡ None) where
      front_none : (e : List ℕ) → first (is_row (s ++ e) l op r) m ≡ None
      front_none e = front_first l op r s e m four ∙ none_yet

      abbrev H : Bool
      H = here C l op r n a s m four

      abbrev T : Bool
      T = there C l op r n a s m four

      abbrev S : List ℕ
      S = single C n a

      abbrev D : List ℕ
      D = double C n a

      -- the row stands once
      by_one : (t : Bool) → H ≡ t → Agrees C l op r (cond t (Some n) None) (s ++ S) (m + 1)
      by_one true p =
          (m, first_here (is_row (s ++ S) l op r) m (m + 1) (omega arith) (front_none S) refl (first_entry C l op r n a s m four [] ∙ p), a.finds_result ∙ ap Some (sym (first_result C l op r n a s m four [])))
      by_one false p = first_next (is_row (s ++ S) l op r) m (front_none S) refl (first_entry C l op r n a s m four [] ∙ p)

      -- or for the turned pair too
      two_on : m + 2 ≡ m + 1 + 1
      two_on = omega arith

      by_two : (t : Bool) → H ≡ t → (u : Bool) → T ≡ u → Agrees C l op r (cond (t || u) (Some n) None) (s ++ D) (m + 2)
      by_two true p u q = (
        m,
        first_here (is_row (s ++ D) l op r) m (m + 2) (omega arith) (front_none D) refl (first_entry C l op r n a s m four _ ∙ p),
        a.finds_result ∙ ap Some (sym (first_result C l op r n a s m four _)),
      )
      by_two false p true q =
          let f = first_next (is_row (s ++ D) l op r) m (front_none D) refl (first_entry C l op r n a s m four _ ∙ p) in (
            m + 1,
            first_here (is_row (s ++ D) l op r) (m + 1) (m + 2) (omega arith) f refl (second_entry C l op r n a s m four ∙ q),
            a.finds_result ∙ ap Some (sym (second_result C l op r n a s m four)),
          )
      by_two false p false q =
          let f = first_next (is_row (s ++ D) l op r) m (front_none D) refl (first_entry C l op r n a s m four _ ∙ p) in
          rw two_on (first_next (is_row (s ++ D) l op r) (m + 1) f refl (second_entry C l op r n a s m four ∙ q))

    -- so after one row more it agrees again
    abbrev After : Type 0
    After = (k : ℕ) × (length (entries_of C (C.row n)) ≡ 4 * k) × Agrees C l op r (row_among C (suc n) l op r) (s ++ entries_of C (C.row n)) (m + k)

    next : (o : Option ℕ) → row_among C n l op r ≡ o → Agrees C l op r o s m → After
    next o p h = go ((C.row n).commutative && not (eqb a.left a.right)) refl
      where
        on : (t : Bool) (k : ℕ) (e : List ℕ) → covers C l op r (C.row n) ≡ t → ((first (is_row s l op r) m ≡ None) → Agrees C l op r (cond t (Some n) None) (s ++ e) (m + k))
            → (o : Option ℕ) → row_among C n l op r ≡ o → Agrees C l op r o s m → Agrees C l op r (row_among C (suc n) l op r) (s ++ e) (m + k)
        on t k e c f None p h = rw (among_here n p c) (f h)
        on t k e c f (Some j) p h = rw (among_on n p) (kept j e k h)

        go : (t : Bool) → ((C.row n).commutative && not (eqb a.left a.right)) ≡ t → After
        go false u =
            let z = entries_are C n a false u in
            (1, rw z refl, rw z (on (here C l op r n a s m four) 1 (single C n a) (covers_once C l op r n a s m four u) (λ y. by_one y (here C l op r n a s m four) refl) o p h))
        go true u =
            let z = entries_are C n a true u in
            let c = covers_twice C l op r n a s m four (and_left (C.row n).commutative _ u) in
            (2, rw z refl, rw z (on (here C l op r n a s m four || there C l op r n a s m four) 2 (double C n a) c (λ y. by_two y (here C l op r n a s m four) refl (there C l op r n a s m four) refl) o p h))

  -- ---- n rows, each accepted
  pub agree : (n : ℕ) → ((i : ℕ) → i < n → Accepted C i) → (m : ℕ) × (length (entries_in C n) ≡ 4 * m) × Agrees C l op r (row_among C n l op r) (entries_in C n) m
  unfolding entries_in row_among first
  agree zero rows = (0, refl, refl)
  agree (suc n) rows =
      let b = agree n (λ i h. rows i (omega arith)) in
      let f = next n (rows n (omega arith)) (entries_in C n) b.0 b.1 (row_among C n l op r) refl b.2 in
      (b.0 + f.0, length-append (entries_in C n) (entries_of C (C.row n)) ∙ omega (arith, b.1, f.1), f.2)

  quarter : (m : ℕ) → 4 * m / 4 ≡ m
  quarter m = omega arith

  pub entries_said : (n : ℕ) → ((i : ℕ) → i < n → Accepted C i) → C.kind_count ≤ 240 → table.rows_of (entries_in C n) l op r ≡ found (row_among C n l op r) (λ i. find C (C.row i).result) None
  unfolding table.rows_of
  entries_said n rows few = let g = agree n rows in rw (g.1, quarter g.0) (go g.0 (row_among C n l op r) g.2)
    where
      go : (m : ℕ) (o : Option ℕ) → Agrees C l op r o (entries_in C n) m
          → found (first (is_row (entries_in C n) l op r) m) (λ i. index_or (word (entries_in C n) (4 * i + 3))) None ≡ found o (λ i. find C (C.row i).result) None
      go m None h = rw h
      go m (Some j) h =
          let b : word (entries_in C n) (4 * h.0 + 3) < absent = le_trans (find_below C (C.row j).result h.2) (le_trans few (omega arith)) in
          rw (h.1, h.2, lt-ltb (word (entries_in C n) (4 * h.0 + 3)) absent b)

pub rows_said : (C : Catalog) → Passed C → C.kind_count ≤ 240 → table.rows_of (in_force C) ≡ catalog.rows_of C
unfolding catalog.rows_of
rows_said C passed few = fun_ext (λ l. fun_ext (λ op. fun_ext (λ r. entries_said C l op r C.row_count (λ i h. row_tells C i (passed.rows i h)) few)))

-- ---- the table's own rows
module _ (t : List ℕ) (C : Catalog) (holds : Holds t C) (fit : Fits C) (long : 9296 ≤ length t) where
  fewer : (m n : ℕ) → m ≤ 2 * n → n ≤ 200 → 4 * m ≤ 1600
  fewer m n h k = omega arith

  rest_long : (m : ℕ) → 4 * m ≤ 1600 → 4 * m ≤ length (drop 7696 t)
  rest_long m h = rw (length-drop 7696 t) (omega arith)

  pub own_rows_law : own_rows t ≡ in_force C
  unfolding own_rows
  own_rows_law = rw (head_rows t C holds) (go (in_four C C.row_count))
    where
      go : (m : ℕ) × (length (in_force C) ≡ 4 * m) × (m ≤ 2 * C.row_count) → take (4 * (length (in_force C) / 4)) (drop 7696 t) ≡ in_force C
      go g =
          let k : 4 * g.0 ≤ 1600 = fewer g.0 C.row_count g.2 fit.rows in
          let z : length (in_force C) / 4 ≡ g.0 = rw g.1 (omega arith) in
          let y : length (take (4 * g.0) (drop 7696 t)) ≡ 4 * g.0 = length-take-le (4 * g.0) (drop 7696 t) (rest_long g.0 k) in
          rw z
          (ext_get_or 0 (take (4 * g.0) (drop 7696 t)) (in_force C) (y ∙ sym g.1)
          (λ i h.
          let b : i < 4 * g.0 = rw y at h in
          get_or-take (4 * g.0) (drop 7696 t) i 0 b ∙ get_or-drop 7696 t i 0 ∙ row_word t C holds i (le_trans b k)))

  pub rows_back : Passed C → table.rows_of (own_rows t) ≡ catalog.rows_of C
  rows_back passed = ap table.rows_of own_rows_law ∙ rows_said C passed fit.kinds
