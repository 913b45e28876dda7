-- One row stands for a list of rows in a lookup: the one for the pair, where all are in range. Assumes nothing.
use Prim.Native.Nat.{ℕ, zero, suc, ◌+◌, ◌*◌, ◌/◌, ◌%◌}
use mathlib.Core.Path.{◌≡◌, refl, sym, ◌∙◌, ap}
use mathlib.Core.Bool.{Bool, true, false, not, ◌&&◌, and-false}
use mathlib.Core.List.{List, [], ◌∷◌}
use Rattle.std.specs.declared.option.Option.{Option}
use Rattle.std.specs.declared.option.Option.TheVariants.{None, Some}
use native.Mathlib.Omega.{arith}
use lib.Dec.{eqb, ltb}
use lib.ListN.{length}
use borrow.Author.Tests.{eqb-true, eq-eqb, not-true}
use Rattle.laws.specs.Out.{given, refused, needed, known, ◌>>=◌, ◌>>◌}
use Rattle.laws.specs.Ranges.{first, all}
use Rattle.laws.proofs.First.{first_below, first_passes}
use Rattle.laws.proofs.All.{all_at}
use Rattle.laws.proofs.Cases.{and_left, and_right}
use Rattle.dimension.specs.declared.grade.ProductOp.{ProductOp}
use Rattle.dimension.specs.declared.grade.ProductOp.TheVariants.{Mul, Div, Dot, Wedge}
use Rattle.rules.specs.Kinds.{Kinds, Rows, op_word}
use Rattle.rules.specs.Refusal as why
use Rattle.rules.specs.Refusal.{Placed, absent, twins_after}
use Rattle.rules.specs.Arithmetic as rule
use Rattle.rules.specs.Table.{word, is_row, rows_of, index_or, row_fine, are_rows, is_table, kinds_of, row_words}
use Rattle.rules.specs.Lookup as lone
use Rattle.std.specs.declared.result.Result.{Result}
use Rattle.error.specs.declared.fault.Fault.{Fault}
use Rattle.lookup.specs.Shown.{op_by, placed}
use Rattle.rows.specs.Standing.{standing}

-- ---- what a lookup over the rows s hands back: where rows are out of range, what it hands back over one word that is no row
abbrev pub Told : List ℕ → List ℕ → List ℕ → ℕ → ℕ → ℕ → Result ℕ Fault → List ℕ → Type 0
Told t s tw code l r v w = (v ≡ placed (lone.combine t s tw code l r)) × (w ≡ twins_after (lone.combine t s tw code l r) tw)

pub wrong_stands : (t tw : List ℕ) (code l r : ℕ) (fine : Bool) (named : Option ℕ) {v : Result ℕ Fault} {w : List ℕ} → not fine ≡ true → Told t (0 ∷ []) tw code l r v w → Told t (standing fine named code l r) tw code l r v w
unfolding standing
wrong_stands t tw code l r fine named p e = let f : fine ≡ false = not-true fine p in rw f e

-- ---- a lookup reads of its rows whether they are in range, and what they name for the pair
module _ (K : Kinds) (l r : ℕ) where
  abbrev product_by : ProductOp → Option ℕ → why.Answer ℕ
  product_by op o = rule.derive K l op r >>= λ x. rule.settle (rule.resolve K l op r x) (refused (why.NoProductKind x)) given (λ ks. known o (refused (why.UnresolvedTwin l op r ks)))

  product_reads : (R : Rows) (op : ProductOp) → rule.product K R l op r ≡ product_by op (R l op r)
  unfolding rule.product
  product_reads R op = refl

  module _ (R R' : Rows) where
    same_product : (op : ProductOp) → R l op r ≡ R' l op r → rule.combine K R (rule.multiplied op) l r ≡ rule.combine K R' (rule.multiplied op) l r
    unfolding rule.combine
    same_product op e = product_reads R op ∙ ap (product_by op) e ∙ sym (product_reads R' op)

    abbrev onward : Rows → Option rule.Op → why.Answer ℕ
    onward Q o = needed o (why.Malformed 0) >>= λ op. (rule.indexed K l >> (rule.indexed K r >> rule.combine K Q op l r))

    same_answer : (code : ℕ) → R l (op_by code) r ≡ R' l (op_by code) r → onward R (rule.op_by code) ≡ onward R' (rule.op_by code)
    unfolding rule.op_by op_by rule.combine
    same_answer zero e = refl
    same_answer (suc zero) e = refl
    same_answer (suc (suc zero)) e = refl
    same_answer (suc (suc (suc zero))) e = refl
    same_answer (suc (suc (suc (suc zero)))) e = ap (λ (z : why.Answer ℕ). rule.indexed K l >> (rule.indexed K r >> z)) (same_product Mul e)
    same_answer (suc (suc (suc (suc (suc zero))))) e = ap (λ (z : why.Answer ℕ). rule.indexed K l >> (rule.indexed K r >> z)) (same_product Div e)
    same_answer (suc (suc (suc (suc (suc (suc zero)))))) e = ap (λ (z : why.Answer ℕ). rule.indexed K l >> (rule.indexed K r >> z)) (same_product Dot e)
    same_answer (suc (suc (suc (suc (suc (suc (suc zero))))))) e = ap (λ (z : why.Answer ℕ). rule.indexed K l >> (rule.indexed K r >> z)) (same_product Wedge e)
    same_answer (suc (suc (suc (suc (suc (suc (suc (suc n)))))))) e = refl

module _ (t tw s s' : List ℕ) (code l r : ℕ) (p : are_rows t s ≡ are_rows t s') where
  refused_both : are_rows t s' ≡ false → lone.combine t s tw code l r ≡ lone.combine t s' tw code l r
  unfolding lone.combine lone.tabled
  refused_both q = rw (p, q, and-false (is_table t))

  answered_both : rows_of s l (op_by code) r ≡ rows_of s' l (op_by code) r → lone.combine t s tw code l r ≡ lone.combine t s' tw code l r
  unfolding lone.combine lone.tabled
  answered_both e = rw (p, same_answer (kinds_of t) l r (rows_of s) (rows_of s') code e)

-- ---- where rows are in range and the first for a pair names k, that row is in range, and names k
index_told : (w k : ℕ) → index_or w ≡ Some k → (w ≡ k) × (ltb w absent ≡ true)
index_told w k e = go (ltb w absent) refl
  where
    go : (b : Bool) → ltb w absent ≡ b → (w ≡ k) × (ltb w absent ≡ true)
    go true p = let z : Some w ≡ Some k = rw p at e in (cc, p)
    go false p = let z : None ≡ Some k = rw p at e in let y : ◌≡◌ {A = ℕ} 0 1 = cc in absurd (omega arith)

module _ (t s : List ℕ) (l : ℕ) (op : ProductOp) (r k : ℕ) where
  -- what is known of row i
  record Row_is (i : ℕ) : Type 0 where
    left : word s (4 * i) ≡ l
    op_is : word s (4 * i + 1) ≡ op_word op
    right : word s (4 * i + 2) ≡ r
    result : word s (4 * i + 3) ≡ k
    below : ltb k absent ≡ true
    fine : row_fine t s (4 * i) ≡ true

  row_is : (i : ℕ) → is_row s l op r i ≡ true → index_or (word s (4 * i + 3)) ≡ Some k → row_fine t s (4 * i) ≡ true → Row_is i
  unfolding is_row
  row_is i a b c =
      let d = and_left (eqb (word s (4 * i)) l && eqb (word s (4 * i + 1)) (op_word op)) (eqb (word s (4 * i + 2)) r) a in
      let w = index_told (word s (4 * i + 3)) k b in
      record {
        left = eqb-true _ _ (and_left (eqb (word s (4 * i)) l) (eqb (word s (4 * i + 1)) (op_word op)) d);
        op_is = eqb-true _ _ (and_right (eqb (word s (4 * i)) l) (eqb (word s (4 * i + 1)) (op_word op)) d);
        right = eqb-true _ _ (and_right (eqb (word s (4 * i)) l && eqb (word s (4 * i + 1)) (op_word op)) (eqb (word s (4 * i + 2)) r) a);
        result = w.0;
        below = rw (← w.0) w.1;
        fine = c;
      }

  find_row : are_rows t s ≡ true → rows_of s l op r ≡ Some k → (i : ℕ) × Row_is i
  unfolding are_rows rows_of
  find_row h e = go (first (is_row s l op r) (length s / 4)) refl
    where
      go : (f : Option ℕ) → first (is_row s l op r) (length s / 4) ≡ f → (i : ℕ) × Row_is i
      go None p = let z : None ≡ Some k = rw p at e in let y : ◌≡◌ {A = ℕ} 0 1 = cc in absurd (omega arith)
      go (Some i) p =
          let z : index_or (word s (4 * i + 3)) ≡ Some k = rw p at e in (
            i,
            row_is i (first_passes (is_row s l op r) (length s / 4) p) z
                (all_at (λ j. row_fine t s (4 * j)) (length s / 4) i (and_right (eqb (length s % 4) 0) (all (λ j. row_fine t s (4 * j)) (length s / 4)) h) (first_below (is_row s l op r) (length s / 4) p)),
          )

  row_fine_law : (i : ℕ) → Row_is i → are_rows t (row_words l op r k) ≡ true
  unfolding are_rows row_fine all
  row_fine_law i x = rw (← x.left, ← x.op_is, ← x.right, ← x.result) x.fine

  row_names : ltb k absent ≡ true → rows_of (row_words l op r k) l op r ≡ Some k
  unfolding rows_of is_row first
  row_names h = rw (eq-eqb l l refl, eq-eqb (op_word op) (op_word op) refl, eq-eqb r r refl, h)

-- ---- one word is no row; no words are no rows
lone_wrong : (t : List ℕ) → are_rows t (0 ∷ []) ≡ false
unfolding are_rows
lone_wrong t = refl

no_rows : (t : List ℕ) → are_rows t [] ≡ true
unfolding are_rows all
no_rows t = refl

none_named : (l : ℕ) (op : ProductOp) (r : ℕ) → rows_of [] l op r ≡ None
unfolding rows_of first
none_named l op r = refl

-- ---- so the row for the pair stands for them all
stands : (t tw s : List ℕ) (code l r : ℕ) → lone.combine t (standing (are_rows t s) (rows_of s l (op_by code) r) code l r) tw code l r ≡ lone.combine t s tw code l r
unfolding standing
stands t tw s code l r = go (are_rows t s) refl (rows_of s l (op_by code) r) refl
  where
    go : (b : Bool) → are_rows t s ≡ b → (o : Option ℕ) → rows_of s l (op_by code) r ≡ o → lone.combine t (standing b o code l r) tw code l r ≡ lone.combine t s tw code l r
    go false p o q = refused_both t tw (0 ∷ []) s code l r (lone_wrong t ∙ sym p) p
    go true p None q = answered_both t tw [] s code l r (no_rows t ∙ sym p) (none_named l (op_by code) r ∙ sym q)
    go true p (Some k) q =
        let x = find_row t s l (op_by code) r k p q in
        answered_both t tw (row_words l (op_by code) r k) s code l r (row_fine_law t s l (op_by code) r k x.0 x.1 ∙ sym p) (row_names t s l (op_by code) r k x.1.below ∙ sym q)

-- what the code asked of the rows in turn: whether they are in range, and what they name for the pair
module _ (t tw s : List ℕ) (code l r : ℕ) {b : Bool} {op : ProductOp} {o : Option ℕ} (f : b ≡ are_rows t s) (p : op ≡ op_by code) (q : o ≡ rows_of s l op r) where
  same : lone.combine t (standing b o code l r) tw code l r ≡ lone.combine t s tw code l r
  same = rw (f, q, p) (stands t tw s code l r)

  pub stood_value : {v : Result ℕ Fault} → v ≡ placed (lone.combine t (standing b o code l r) tw code l r) → v ≡ placed (lone.combine t s tw code l r)
  stood_value e = e ∙ ap placed same

  pub stood_list : {w : List ℕ} → w ≡ twins_after (lone.combine t (standing b o code l r) tw code l r) tw → w ≡ twins_after (lone.combine t s tw code l r) tw
  stood_list e = e ∙ ap (λ (y : Placed ℕ). twins_after y tw) same

pub ruleset stood = (stood_value, stood_list)
