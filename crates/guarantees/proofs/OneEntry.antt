-- The rows in force as words: each is the first for its left, operation and right. Assumes nothing.
use Prim.Native.Nat.{ℕ, zero, suc, ◌+◌, ◌-◌, ◌*◌, ◌<◌, ◌≤◌}
use mathlib.Core.Path.{◌≡◌, refl, sym, ◌∙◌}
use mathlib.Core.Bool.{Bool, true, false, not, ◌&&◌, true≢false}
use mathlib.Core.List.{List, [], ◌++◌}
use Rattle.std.specs.declared.option.Option.TheVariants.{None}
use native.Mathlib.Nat.{not-suc-le-zero, le_of_suc-le-suc}
use native.Mathlib.Decide.{dec_le}
use native.Mathlib.Omega.{arith}
use lib.Dec.{eqb}
use lib.ListN.{length, length-append}
use borrow.Author.Tests.{eqb-true, eq-eqb}
use Rattle.laws.specs.Ranges.{first}
use Rattle.laws.proofs.Cases.{and_left, and_right}
use Rattle.laws.proofs.First.{first_same, first_next, first_misses}
use Rattle.dimension.specs.declared.grade.ProductOp.{ProductOp}
use Rattle.rules.specs.Kinds.{op_word, same_op}
use Rattle.rules.specs.Catalog.{Catalog, row_among}
use Rattle.rules.specs.Table.{word, is_row, entries_of, entries_in}
use Rattle.guarantees.proofs.RowRules.{Accepted}
use Rattle.guarantees.proofs.Entries.{front_row, front_first, Agrees, single, double, entries_are, first_entry, second_entry}
use Rattle.guarantees.proofs.InForce.{agree}

-- entry i of s, and none before it is for the same
pub record First (s : List ℕ) (i : ℕ) : Type 0 where
  pub left : ℕ
  pub op : ProductOp
  pub right : ℕ
  pub is : is_row s left op right i ≡ true
  pub none_before : first (is_row s left op right) i ≡ None

all_three : (a b c d e f : ℕ) → a ≡ b → c ≡ d → e ≡ f → (eqb a b && eqb c d && eqb e f) ≡ true
all_three a b c d e f p q r = rw (eq-eqb a b p, eq-eqb c d q, eq-eqb e f r)

module _ (s : List ℕ) (i : ℕ) (h : First s i) where
  parts : (eqb (word s (4 * i)) h.left && eqb (word s (4 * i + 1)) (op_word h.op) && eqb (word s (4 * i + 2)) h.right) ≡ true
  unfolding is_row
  parts = h.is

  abbrev two : Bool
  two = eqb (word s (4 * i)) h.left && eqb (word s (4 * i + 1)) (op_word h.op)

  pub left_is_law : word s (4 * i) ≡ h.left
  left_is_law = eqb-true _ _ (and_left (eqb (word s (4 * i)) h.left) _ (and_left two _ parts))

  pub op_is : word s (4 * i + 1) ≡ op_word h.op
  op_is = eqb-true _ _ (and_right (eqb (word s (4 * i)) h.left) _ (and_left two _ parts))

  pub right_is : word s (4 * i + 2) ≡ h.right
  right_is = eqb-true _ _ (and_right two _ parts)

  -- an earlier entry is for something else
  pub earlier : (j : ℕ) → j < i → word s (4 * j) ≡ word s (4 * i) → word s (4 * j + 1) ≡ word s (4 * i + 1) → word s (4 * j + 2) ≡ word s (4 * i + 2) → ⊥
  unfolding is_row
  earlier j l p q r =
      let t : is_row s h.left h.op h.right j ≡ true = all_three (word s (4 * j)) h.left (word s (4 * j + 1)) (op_word h.op) (word s (4 * j + 2)) h.right (p ∙ left_is_law) (q ∙ op_is) (r ∙ right_is) in
      true≢false (sym t ∙ first_misses (is_row s h.left h.op h.right) i j h.none_before l)

-- ---- by one row more
module _ (C : Catalog) (n : ℕ) (rows : (i : ℕ) → i < n → Accepted C i) (a : Accepted C n) where
  -- none of the earlier entries is for what an accepted row is for
  module _ (m : ℕ) (four : length (entries_in C n) ≡ 4 * m) where
    unmet : (l : ℕ) (op : ProductOp) (r : ℕ) → row_among C n l op r ≡ None → first (is_row (entries_in C n) l op r) m ≡ None
    unmet l op r e =
        let g = agree C l op r n rows in
        let z : g.0 ≡ m = same g.0 m (sym g.1 ∙ four) in
        let w : Agrees C l op r None (entries_in C n) g.0 = rw e at g.2 in
        rw (← z) w
      where
        same : (x y : ℕ) → 4 * x ≡ 4 * y → x ≡ y
        same x y e = omega arith

    in_front : (e : List ℕ) (i : ℕ) → i < m → First (entries_in C n) i → First (entries_in C n ++ e) i
    in_front e i h f = record {
      left = f.left;
      op = f.op;
      right = f.right;
      is = front_row f.left f.op f.right (entries_in C n) e m four i h ∙ f.is;
      none_before = first_same (is_row (entries_in C n ++ e) f.left f.op f.right) (is_row (entries_in C n) f.left f.op f.right) i (λ k l. front_row f.left f.op f.right (entries_in C n) e m four k (omega arith)) ∙ f.none_before;
    }

    self : (x : ℕ) (op : ProductOp) (y : ℕ) → (eqb x x && same_op op op && eqb y y) ≡ true
    self x op y = all_three x x (op_word op) (op_word op) y y refl refl refl

    abbrev o : ProductOp
    o = (C.row n).op

    -- its entry as it stands
    stands : (e : List ℕ) → First (entries_in C n ++ (single C n a ++ e)) m
    stands e = record {
      left = a.left;
      op = o;
      right = a.right;
      is = first_entry C a.left o a.right n a (entries_in C n) m four e ∙ self a.left o a.right;
      none_before = front_first a.left o a.right (entries_in C n) (single C n a ++ e) m four ∙ unmet a.left o a.right a.only;
    }

    -- and its entry for the turned pair, which is another
    turns : (C.row n).commutative ≡ true → eqb a.left a.right ≡ false → First (entries_in C n ++ double C n a) (m + 1)
    turns c d =
        let none_yet = front_first a.right o a.left (entries_in C n) (double C n a) m four ∙ unmet a.right o a.left (a.only_turned c) in record {
          left = a.right;
          op = o;
          right = a.left;
          is = second_entry C a.right o a.left n a (entries_in C n) m four ∙ self a.right o a.left;
          none_before = first_next (is_row (entries_in C n ++ double C n a) a.right o a.left) m none_yet refl (first_entry C a.right o a.left n a (entries_in C n) m four _ ∙ rw d);
        }

    abbrev Next : Type 0
    Next = (k : ℕ) × (length (entries_of C (C.row n)) ≡ 4 * k) × ((j : ℕ) → j < k → First (entries_in C n ++ entries_of C (C.row n)) (m + j))

    next : Next
    next = go ((C.row n).commutative && not (eqb a.left a.right)) refl
      where
        flip : (t : Bool) → not t ≡ true → t ≡ false
        flip false e = refl
        flip true e = cc

        here : (e : List ℕ) → First (entries_in C n ++ (single C n a ++ e)) (m + 0)
        here e = let z : m + 0 ≡ m = omega arith in rw z (stands e)

        once : (j : ℕ) → j < 1 → First (entries_in C n ++ single C n a) (m + j)
        once zero h = here []
        once (suc j) h = absurd (not-suc-le-zero (le_of_suc-le-suc h))

        twice : (C.row n).commutative ≡ true → eqb a.left a.right ≡ false → (j : ℕ) → j < 2 → First (entries_in C n ++ double C n a) (m + j)
        twice c d zero h = here _
        twice c d (suc zero) h = turns c d
        twice c d (suc (suc j)) h = absurd (not-suc-le-zero (le_of_suc-le-suc (le_of_suc-le-suc h)))

        go : (t : Bool) → ((C.row n).commutative && not (eqb a.left a.right)) ≡ t → Next
        go false u = let z = entries_are C n a false u in (1, rw z refl, rw z once)
        go true u =
            let z = entries_are C n a true u in
            (2, rw z refl, rw z (twice (and_left (C.row n).commutative _ u) (flip _ (and_right (C.row n).commutative _ u))))

    -- all entries of the n rows and of this one
    abbrev All : ℕ → Type 0
    All k = (m : ℕ) × (length (entries_in C k) ≡ 4 * m) × ((i : ℕ) → i < m → First (entries_in C k) i)

    both : ((i : ℕ) → i < m → First (entries_in C n) i) → All (suc n)
    unfolding entries_in
    both h = (m + next.0, length-append (entries_in C n) (entries_of C (C.row n)) ∙ omega (arith, four, next.1), at)
      where
        at : (i : ℕ) → i < m + next.0 → First (entries_in C n ++ entries_of C (C.row n)) i
        at i l = go (dec_le m i)
          where
            go : Dec (m ≤ i) → First (entries_in C n ++ entries_of C (C.row n)) i
            go (no f) = let b : i < m = omega arith in in_front (entries_of C (C.row n)) i b (h i b)
            go (yes f) = let z : i ≡ m + (i - m) = omega arith in rw z (next.2 (i - m) (omega arith))

-- ---- n rows, each accepted
pub all_first : (C : Catalog) (n : ℕ) → ((i : ℕ) → i < n → Accepted C i) → (m : ℕ) × (length (entries_in C n) ≡ 4 * m) × ((i : ℕ) → i < m → First (entries_in C n) i)
unfolding entries_in
all_first C zero rows = (0, refl, λ i h. absurd (not-suc-le-zero h))
all_first C (suc n) rows =
    let b = all_first C n (λ i h. rows i (omega arith)) in
    both C n (λ i h. rows i (omega arith)) (rows n (omega arith)) b.0 b.1 b.2
