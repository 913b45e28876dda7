-- What words that are a table tell (40): whatever they name is in range, grades are 0 to 3, exponents are such as can be declared. Assumes nothing.
use Prim.Native.Nat.{ℕ, ◌+◌, ◌*◌, ◌/◌, ◌%◌, ◌<◌, ◌≤◌, min}
use mathlib.Core.Path.{◌≡◌, refl, sym, ◌∙◌, subst}
use mathlib.Core.Bool.{Bool, true, false, cond, ◌&&◌, ◌||◌, true≢false}
use mathlib.Core.List.{List}
use Rattle.std.specs.declared.option.Option.{Option}
use Rattle.std.specs.declared.option.Option.TheVariants.{None, Some}
use native.Mathlib.Omega.{arith}
use lib.Dec.{eqb, ltb, leb}
use lib.ListN.{length}
use borrow.Author.Tests.{ltb-true, ltb-false, leb-true, eqb-true}
use Rattle.laws.specs.Ranges.{first, all, below}
use Rattle.laws.proofs.Cases.{and_left, and_right}
use Rattle.laws.proofs.All.{all_at}
use Rattle.laws.proofs.Below.{below_in, below_past}
use Rattle.laws.proofs.First.{first_below}
use Rattle.laws.proofs.Tab.{length_tab, tab_at}
use Rattle.dimension.specs.Fraction as F
use Rattle.dimension.specs.Dimension as D
use Rattle.dimension.specs.declared.dimensions.Dimensions.{Dimensions}
use Rattle.dimension.specs.declared.grade.ProductOp.{ProductOp}
use Rattle.dimension.proofs.ExponentLaws as E
use Rattle.rules.specs.Refusal.{absent}
use Rattle.rules.specs.Table.{word, kind_place, index_or, exponent_from, dims_from, kinds_of, is_row, rows_of, is_kind, link_fine, head_fine, marks_fine, exponents_fine, kind_fine, row_fine, is_table, are_rows}
use Rattle.guarantees.proofs.ProductLaws.{Within}

-- ---- an index that is read, of a word that is one or none
is_index : (w k : ℕ) → index_or w ≡ Some k → (w < absent) × (w ≡ k)
is_index w k e = go (ltb w absent) refl
  where
    go : (t : Bool) → ltb w absent ≡ t → (w < absent) × (w ≡ k)
    go true p = let z : Some w ≡ Some k = rw p at e in (ltb-true w absent p, cc)
    go false p = let z : None ≡ Some k = rw p at e in let y : true ≡ false = cc in absurd (true≢false y)

-- f below n names something: it is below n, and f names it
below_some : {A : Type 0} (n : ℕ) (f : ℕ → Option A) (k : ℕ) (a : A) → below n None f k ≡ Some a → (k < n) × (f k ≡ Some a)
below_some n f k a e = go (ltb k n) refl
  where
    go : (t : Bool) → ltb k n ≡ t → (k < n) × (f k ≡ Some a)
    go true p = let h = ltb-true k n p in (h, sym (below_in n None f k h) ∙ e)
    go false p = let z : None ≡ Some a = sym (below_past n None f k (ltb-false k n p)) ∙ e in let y : true ≡ false = cc in absurd (true≢false y)

module _ (t : List ℕ) (h : is_table t ≡ true) where
  parts : (head_fine t ≡ true) × (all (kind_fine t) (word t 0) ≡ true)
  unfolding is_table
  parts = let a = and_left (head_fine t && all (kind_fine t) (word t 0)) _ h in (and_left (head_fine t) _ a, and_right (head_fine t) _ a)

  heads : (leb (word t 0) 240 ≡ true) × (link_fine t (word t 2) ≡ true)
  unfolding head_fine
  heads =
      let a = and_left (leb (word t 0) 240 && leb (word t 1) 400 && link_fine t (word t 2)) _ parts.0 in
      let b = and_left (leb (word t 0) 240 && leb (word t 1) 400) _ a in
      (and_left (leb (word t 0) 240) _ b, and_right (leb (word t 0) 240 && leb (word t 1) 400) _ a)

  least : (m n : ℕ) → n ≤ m → min m n ≡ n
  least m n l = omega arith

  pub table_count : (kinds_of t).count ≡ word t 0
  unfolding kinds_of
  table_count = least 240 (word t 0) (leb-true (word t 0) 240 heads.0)

  in_count : (k : ℕ) → is_kind t k ≡ true → k < (kinds_of t).count
  in_count k e = rw table_count (ltb-true k (word t 0) e)

  -- a link that is read is one of the table's kinds
  link_in : (w k : ℕ) → link_fine t w ≡ true → index_or w ≡ Some k → k < (kinds_of t).count
  link_in w k e i = go (is_kind t w) refl
    where
      z : (w < absent) × (w ≡ k)
      z = is_index w k i

      go : (b : Bool) → is_kind t w ≡ b → k < (kinds_of t).count
      go true p = rw (← z.1) (in_count w p)
      go false p = let y : eqb w absent ≡ true = rw p at e in absurd (apart w absent (eqb-true w absent y) z.0)
        where
          apart : (a b : ℕ) → a ≡ b → a < b → ⊥
          apart a b e l = omega arith

  -- ---- kind k's marks
  abbrev p : ℕ → ℕ
  p k = kind_place k

  module _ (k : ℕ) (l : k < (kinds_of t).count) where
    kind_is : kind_fine t k ≡ true
    kind_is = all_at (kind_fine t) (word t 0) k parts.1 (rw table_count at l)

    abbrev a : Bool
    a = ltb (word t (p k + 24)) 2

    abbrev b : Bool
    b = ltb (word t (p k + 25)) 4

    abbrev c : Bool
    c = ltb (word t (p k + 26)) 3

    abbrev d : Bool
    d = cond (eqb (word t (p k + 26)) 1) (is_kind t (word t (p k + 27))) (eqb (word t (p k + 27)) absent)

    abbrev e : Bool
    e = link_fine t (word t (p k + 28))

    marks : (b ≡ true) × (d ≡ true) × (e ≡ true) × (link_fine t (word t (p k + 29)) ≡ true)
    unfolding kind_fine marks_fine
    marks =
        let v = and_left (marks_fine t (p k)) _ kind_is in
        let w = and_left (a && b && c && d && e) _ v in
        let x = and_left (a && b && c && d) e w in
        let y = and_left (a && b && c) d x in
        let z = and_left (a && b) c y in
        (and_right a b z, and_right (a && b && c) d x, and_right (a && b && c && d) e w, and_right (a && b && c && d && e) _ v)

    -- a difference is a link too
    difference_fine : link_fine t (word t (p k + 27)) ≡ true
    difference_fine = go (eqb (word t (p k + 26)) 1) refl
      where
        or_right : (s u : Bool) → u ≡ true → (s || u) ≡ true
        or_right true u q = refl
        or_right false u q = q

        go : (s : Bool) → eqb (word t (p k + 26)) 1 ≡ s → link_fine t (word t (p k + 27)) ≡ true
        go true q = let i : is_kind t (word t (p k + 27)) ≡ true = rw q at marks.1 in rw i
        go false q = let i : eqb (word t (p k + 27)) absent ≡ true = rw q at marks.1 in or_right (is_kind t (word t (p k + 27))) _ i

    exponents : eqb (word t (p k + 24)) 1 ≡ true → D.Declared (dims_from t (p k))
    unfolding kind_fine exponents_fine dims_from
    exponents g =
        let v : all (λ b. F.declared (exponent_from t (p k) b)) 12 ≡ true = rw g at (and_right (marks_fine t (p k)) _ kind_is) in
        record {
          twelve = length_tab (exponent_from t (p k)) 12;
          declared = λ b m. rw (tab_at (exponent_from t (p k)) 12 b F.zero m) (E.declared_told (exponent_from t (p k) b) (all_at (λ b. F.declared (exponent_from t (p k) b)) 12 b v m));
        }

  -- ---- what is read
  pub table_grades : (k : ℕ) → (kinds_of t).grade k ≤ 3
  unfolding kinds_of
  table_grades k = go (ltb k (kinds_of t).count) refl
    where
      go : (s : Bool) → ltb k (kinds_of t).count ≡ s → (kinds_of t).grade k ≤ 3
      go true q =
          let m = ltb-true k (kinds_of t).count q in
          let n : word t (p k + 25) < 4 = ltb-true (word t (p k + 25)) 4 (marks k m).0 in
          rw (below_in (kinds_of t).count 0 (λ k. word t (p k + 25)) k m) (omega arith)
      go false q = rw (below_past (kinds_of t).count 0 (λ k. word t (p k + 25)) k (ltb-false k (kinds_of t).count q)) (omega arith)

  pub table_declared : (k : ℕ) (a : Dimensions) → (kinds_of t).dims k ≡ Some a → D.Declared a
  unfolding kinds_of
  table_declared k a f =
      let b = below_some (kinds_of t).count (λ k. cond (eqb (word t (p k + 24)) 1) (Some (dims_from t (p k))) None) k a f in
      go b.0 b.1 (eqb (word t (p k + 24)) 1) refl
    where
      go : k < (kinds_of t).count → cond (eqb (word t (p k + 24)) 1) (Some (dims_from t (p k))) None ≡ Some a → (s : Bool) → eqb (word t (p k + 24)) 1 ≡ s → D.Declared a
      go m f true q =
          let y : Some (dims_from t (p k)) ≡ Some a = rw q at f in
          let z : dims_from t (p k) ≡ a = cc in
          subst D.Declared z (exponents k m q)
      go m f false q = let y : None ≡ Some a = rw q at f in let z : true ≡ false = cc in absurd (true≢false z)

  module _ (s : List ℕ) (g : are_rows t s ≡ true) where
    rows_fine : all (λ i. row_fine t s (4 * i)) (length s / 4) ≡ true
    unfolding are_rows
    rows_fine = and_right (eqb (length s % 4) 0) _ g

    result_in : (i : ℕ) → row_fine t s (4 * i) ≡ true → is_kind t (word s (4 * i + 3)) ≡ true
    unfolding row_fine
    result_in i e = and_right (is_kind t (word s (4 * i)) && ltb (word s (4 * i + 1)) 4 && is_kind t (word s (4 * i + 2))) _ e

    row_in : (l : ℕ) (op : ProductOp) (r k : ℕ) → rows_of s l op r ≡ Some k → k < (kinds_of t).count
    unfolding rows_of
    row_in l op r k f = go (first (is_row s l op r) (length s / 4)) refl
      where
        go : (o : Option ℕ) → first (is_row s l op r) (length s / 4) ≡ o → k < (kinds_of t).count
        go None q = let y : None ≡ Some k = rw q at f in let z : true ≡ false = cc in absurd (true≢false z)
        go (Some i) q =
            let w = is_index (word s (4 * i + 3)) k (rw q at f) in
            let v = all_at (λ i. row_fine t s (4 * i)) (length s / 4) i rows_fine (first_below (is_row s l op r) (length s / 4) q) in
            rw (← w.1) (in_count (word s (4 * i + 3)) (result_in i v))

    -- so every lookup over a table stays in range (`ProductLaws.product_in`, `InRange`)
    pub table_within : Within (kinds_of t) (rows_of s)
    unfolding kinds_of
    table_within = record {
      difference = λ k d f. let b = below_some (kinds_of t).count (λ k. index_or (word t (p k + 27))) k d f in link_in (word t (p k + 27)) d (difference_fine k b.0) b.1;
      rate_of = λ k d f. let b = below_some (kinds_of t).count (λ k. index_or (word t (p k + 28))) k d f in link_in (word t (p k + 28)) d (marks k b.0).2 b.1;
      rate = λ k d f. let b = below_some (kinds_of t).count (λ k. index_or (word t (p k + 29))) k d f in link_in (word t (p k + 29)) d (marks k b.0).3 b.1;
      dimensionless = λ o f. link_in (word t 2) o heads.1 f;
      row = row_in;
    }
