-- The rows in force as a list of words, four a row: their number, and what the first for a pair says. Assumes nothing.
use Prim.Native.Nat.{ℕ, zero, suc, ◌+◌, ◌*◌, ◌<◌, ◌≤◌}
use mathlib.Core.Path.{◌≡◌, refl, sym, ◌∙◌}
use mathlib.Core.Bool.{Bool, true, false, cond, not, ◌&&◌, ◌||◌, true≢false}
use mathlib.Core.List.{List, ◌++◌}
use Rattle.std.specs.declared.option.Option.{Option}
use Rattle.std.specs.declared.option.Option.TheVariants.{None, Some}
use native.Mathlib.Omega.{arith}
use lib.Dec.{eqb}
use lib.ListN.{length, length-append, get_or-append}
use lib.Seq.{get_or-append-add}
use borrow.Author.Tests.{eqb-true}
use Rattle.laws.specs.Ranges.{first}
use Rattle.laws.proofs.First.{first_same}
use Rattle.dimension.specs.declared.grade.ProductOp.{ProductOp}
use Rattle.rules.specs.Kinds.{same_op}
use Rattle.rules.specs.Catalog.{Row, Catalog, find, names, covers}
use Rattle.rules.specs.Table.{word, is_row, row_words, entries_of, entries_in}
use Rattle.guarantees.proofs.RowRules.{Accepted}

-- ---- rows appended
module _ (s e : List ℕ) (m : ℕ) (four : length s ≡ 4 * m) where
  -- a row of the front
  pub front_word : (i j : ℕ) → i < m → j < 4 → word (s ++ e) (4 * i + j) ≡ word s (4 * i + j)
  front_word i j h k = get_or-append s e 0 (4 * i + j) (rw four (omega arith))

  -- and one of those appended
  pub back_word : (i j : ℕ) → word (s ++ e) (4 * (m + i) + j) ≡ word e (4 * i + j)
  back_word i j =
      let z : 4 * (m + i) + j ≡ length s + (4 * i + j) = rw four (omega arith) in
      rw z (get_or-append-add s e (4 * i + j) 0)

pub zero_more : (i : ℕ) → 4 * i + 0 ≡ 4 * i
zero_more i = omega arith

module _ (l : ℕ) (op : ProductOp) (r : ℕ) (s e : List ℕ) (m : ℕ) (four : length s ≡ 4 * m) where
  pub front_row : (i : ℕ) → i < m → is_row (s ++ e) l op r i ≡ is_row s l op r i
  unfolding is_row
  front_row i h = rw (rw (zero_more i) at (front_word s e m four i 0 h (omega arith)), front_word s e m four i 1 h (omega arith), front_word s e m four i 2 h (omega arith))

  back_row : (i : ℕ) → is_row (s ++ e) l op r (m + i) ≡ is_row e l op r i
  unfolding is_row
  back_row i = rw (rw (zero_more i, zero_more (m + i)) at (back_word s e m four i 0), back_word s e m four i 1, back_word s e m four i 2)

  pub front_first : first (is_row (s ++ e) l op r) m ≡ first (is_row s l op r) m
  front_first = first_same (is_row (s ++ e) l op r) (is_row s l op r) m front_row

-- a first that is found stays found
pub longer : (test : ℕ → Bool) (m n : ℕ) {i : ℕ} → first test m ≡ Some i → first test (m + n) ≡ Some i
unfolding first
longer test m zero e = let z : m + 0 ≡ m = omega arith in rw z e
longer test m (suc n) e = let z : m + suc n ≡ suc (m + n) = omega arith in rw (z, first, longer test m n e)

-- ---- one row's entries
module _ (C : Catalog) where
  pub of_four : (x : Row) → (m : ℕ) × (length (entries_of C x) ≡ 4 * m) × (m ≤ 2)
  unfolding entries_of
  of_four x = go (find C x.left) refl (find C x.right) refl (find C x.result) refl
    where
      go : (a : Option ℕ) → find C x.left ≡ a → (b : Option ℕ) → find C x.right ≡ b → (c : Option ℕ) → find C x.result ≡ c → (m : ℕ) × (length (entries_of C x) ≡ 4 * m) × (m ≤ 2)
      go None p b q c s = (0, rw p, omega arith)
      go (Some a) p None q c s = (0, rw (p, q), omega arith)
      go (Some a) p (Some b) q None s = (0, rw (p, q, s), omega arith)
      go (Some a) p (Some b) q (Some c) s = last (x.commutative && not (eqb a b)) refl
        where
          last : (t : Bool) → (x.commutative && not (eqb a b)) ≡ t → (m : ℕ) × (length (entries_of C x) ≡ 4 * m) × (m ≤ 2)
          last true u = (2, rw (p, q, s, u), omega arith)
          last false u = (1, rw (p, q, s, u), omega arith)

  pub in_four : (n : ℕ) → (m : ℕ) × (length (entries_in C n) ≡ 4 * m) × (m ≤ 2 * n)
  unfolding entries_in
  in_four zero = (0, refl, omega arith)
  in_four (suc n) =
      let a = in_four n in
      let b = of_four (C.row n) in
      (a.0 + b.0, length-append (entries_in C n) (entries_of C (C.row n)) ∙ omega (arith, a.1, b.1), omega (arith, a.2, b.2))

-- ---- tests
once : (s p q : Bool) → (s && (p && q || false)) ≡ (p && s && q)
once true true true = refl
once true true false = refl
once true false q = refl
once false true q = refl
once false false q = refl

same : (s p q : Bool) → (s && (p && q || (true && (q && p)))) ≡ (p && s && q)
same true true true = refl
same true true false = refl
same true false true = refl
same true false false = refl
same false true q = refl
same false false q = refl

twice : (s p q f g : Bool) → (s && (p && q || (true && (f && g)))) ≡ ((p && s && q) || (g && s && f))
twice true true true f g = refl
twice true true false true true = refl
twice true true false true false = refl
twice true true false false true = refl
twice true true false false false = refl
twice true false q true true = refl
twice true false q true false = refl
twice true false q false true = refl
twice true false q false false = refl
twice false true q f true = refl
twice false true q f false = refl
twice false false q f true = refl
twice false false q f false = refl

-- ---- what an accepted row enters
module _ (C : Catalog) (n : ℕ) (a : Accepted C n) where
  abbrev pub single : List ℕ
  single = row_words a.left (C.row n).op a.right a.result

  abbrev pub double : List ℕ
  double = row_words a.left (C.row n).op a.right a.result ++ row_words a.right (C.row n).op a.left a.result

  pub entries_are : (t : Bool) → ((C.row n).commutative && not (eqb a.left a.right)) ≡ t → entries_of C (C.row n) ≡ cond t double single
  unfolding entries_of
  entries_are true u = rw (a.finds_left, a.finds_right, a.finds_result, u)
  entries_are false u = rw (a.finds_left, a.finds_right, a.finds_result, u)

-- ---- what the first entry for a pair says is what the first row for it says
module _ (C : Catalog) (l : ℕ) (op : ProductOp) (r : ℕ) where
  abbrev pub Agrees : Option ℕ → List ℕ → ℕ → Type 0
  Agrees None s m = first (is_row s l op r) m ≡ None
  Agrees (Some j) s m = (i : ℕ) × (first (is_row s l op r) m ≡ Some i) × (find C (C.row j).result ≡ Some (word s (4 * i + 3)))

  module _ (n : ℕ) (a : Accepted C n) (s : List ℕ) (m : ℕ) (four : length s ≡ 4 * m) where
    abbrev x : Row
    x = C.row n

    abbrev pub here : Bool
    here = eqb a.left l && same_op x.op op && eqb a.right r

    abbrev pub there : Bool
    there = eqb a.right l && same_op x.op op && eqb a.left r

    pub covers_once : (x.commutative && not (eqb a.left a.right)) ≡ false → covers C l op r x ≡ here
    unfolding covers names
    covers_once u = go x.commutative refl (eqb a.left a.right) refl
      where
        go : (c : Bool) → x.commutative ≡ c → (e : Bool) → eqb a.left a.right ≡ e → covers C l op r x ≡ here
        go false p e q = rw (a.finds_left, a.finds_right, p) (once (same_op x.op op) (eqb a.left l) (eqb a.right r))
        go true p true q =
            let z : a.right ≡ a.left = sym (eqb-true a.left a.right q) in
            rw (a.finds_left, a.finds_right, p, z) (same (same_op x.op op) (eqb a.left l) (eqb a.left r))
        go true p false q = let w : true ≡ false = rw (p, q) at u in absurd (true≢false w)

    pub covers_twice : x.commutative ≡ true → covers C l op r x ≡ (here || there)
    unfolding covers names
    covers_twice p = rw (a.finds_left, a.finds_right, p) (twice (same_op x.op op) (eqb a.left l) (eqb a.right r) (eqb a.left r) (eqb a.right l))

    -- the first entry, and the second
    pub first_entry : (e : List ℕ) → is_row (s ++ (single C n a ++ e)) l op r m ≡ here
    unfolding is_row
    first_entry e = let z : m + 0 ≡ m = omega arith in rw z at (back_row l op r s (single C n a ++ e) m four 0)

    pub second_entry : is_row (s ++ double C n a) l op r (m + 1) ≡ there
    unfolding is_row
    second_entry = back_row l op r s (double C n a) m four 1

    pub first_result : (e : List ℕ) → word (s ++ (single C n a ++ e)) (4 * m + 3) ≡ a.result
    first_result e = let z : m + 0 ≡ m = omega arith in rw z at (back_word s (single C n a ++ e) m four 0 3)

    pub second_result : word (s ++ double C n a) (4 * (m + 1) + 3) ≡ a.result
    second_result = back_word s (double C n a) m four 1 3
