-- What is known of words that are a table, and of rows over it: every index that is read is a kind's, every grade is below 4, and every resolved
-- kind has dimensions that a catalog can declare. Assumes nothing.
use Rattle.std.proofs.Common.{◌≡◌, ℕ, ◌+◌, ◌*◌, ◌/◌, ◌%◌, ◌<◌, ◌≤◌, Bool, true, false, cond, ◌&&◌, ◌||◌, eqb, ltb, leb, List, [], length, sym, refl, true≢false, arith, ltb-true, eqb-true, leb-true}
use Rattle.std.specs.declared.option.Option.{Option}
use Rattle.std.specs.declared.option.Option.TheVariants.{None, Some}
use Rattle.laws.specs.Options.{found}
use Rattle.laws.specs.Ranges.{first, all, below}
use Rattle.laws.proofs.Cases.{and_left, and_right}
use Rattle.laws.proofs.All.{all_at}
use Rattle.laws.proofs.First.{first_below}
use Rattle.laws.proofs.Tab.{length_tab, tab_at}
use Rattle.dimension.specs.Fraction as F
use Rattle.dimension.specs.Dimension as D
use Rattle.dimension.specs.declared.dimensions.Dimensions.{Dimensions}
use Rattle.dimension.specs.declared.grade.ProductOp.{ProductOp}
use Rattle.dimension.proofs.ExponentLaws.{declared_told}
use Rattle.rules.specs.Kinds.{duration}
use Rattle.rules.specs.Table.{word, kind_place, row_place, kinds_in, index_or, exponent_from, dims_from, kinds_of, is_row, rows_of, is_kind, link_fine, head_fine, marks_fine, exponents_fine, kind_fine, row_fine, is_table, are_rows}

-- ---- no table has more kinds, whatever its words
pub count_most : (t : List ℕ) → (kinds_of t).count ≤ 240
unfolding kinds_of
count_most t = omega arith

-- no rows at all are rows over every table
pub no_rows : (t : List ℕ) → are_rows t [] ≡ true
unfolding are_rows all
no_rows t = refl

-- ---- a test of four parts, and of six, of which the second and the last three are wanted
four : (a b c d : Bool) → (a && b && c && d) ≡ true → (a ≡ true) × (b ≡ true) × (c ≡ true) × (d ≡ true)
four a b c d x =
    let y = and_left (a && b && c) d x in
    let z = and_left (a && b) c y in
    (and_left a b z, and_right a b z, and_right (a && b) c y, and_right (a && b && c) d x)

six : (a b c d e f : Bool) → (a && b && c && d && e && f) ≡ true → (b ≡ true) × (d ≡ true) × (e ≡ true) × (f ≡ true)
six a b c d e f x =
    let y = and_left (a && b && c && d && e) f x in
    let z = four (a && b) c d e y in
    (and_right a b z.0, z.2, z.3, and_right (a && b && c && d && e) f x)

-- ---- the tests that a table passes
module _ (t : List ℕ) where
  head_told : is_table t ≡ true → head_fine t ≡ true
  unfolding is_table
  head_told e = and_left (head_fine t) (all (kind_fine t) (word t 0)) (and_left _ (all (λ i. row_fine t t (row_place i)) (word t 1)) e)

  kind_told : (k : ℕ) → is_table t ≡ true → k < word t 0 → kind_fine t k ≡ true
  unfolding is_table
  kind_told k e h = all_at (kind_fine t) (word t 0) k (and_right (head_fine t) (all (kind_fine t) (word t 0)) (and_left _ (all (λ i. row_fine t t (row_place i)) (word t 1)) e)) h

  head_parts : is_table t ≡ true → (leb (word t 0) 240 ≡ true) × (leb (word t 1) 400 ≡ true) × (link_fine t (word t 2) ≡ true) × (link_fine t (word t 3) ≡ true)
  unfolding head_fine
  head_parts e = four (leb (word t 0) 240) (leb (word t 1) 400) (link_fine t (word t 2)) (link_fine t (word t 3)) (head_told e)

  pub table_few : is_table t ≡ true → word t 0 ≤ 240
  table_few e = leb-true (word t 0) 240 (head_parts e).0

  pub table_rows_few : is_table t ≡ true → word t 1 ≤ 400
  table_rows_few e = leb-true (word t 1) 400 (head_parts e).1

  -- the count is the word that says it
  pub table_count : is_table t ≡ true → (kinds_of t).count ≡ word t 0
  unfolding kinds_of
  table_count e = let h = table_few e in omega arith

-- ---- an index that is read is a kind's
module _ (t : List ℕ) where
  link_told : (w : ℕ) {k : ℕ} → link_fine t w ≡ true → index_or w ≡ Some k → k < word t 0
  link_told w {k} e p = go (ltb w 65535) refl (ltb w (word t 0)) refl
    where
      go : (a : Bool) → ltb w 65535 ≡ a → (b : Bool) → ltb w (word t 0) ≡ b → k < word t 0
      go true x true y =
          let z : Some w ≡ Some k = rw x at p in
          let q : w ≡ k = cc in
          rw (← q) (ltb-true w (word t 0) y)
      go true x false y =
          let z : eqb w 65535 ≡ true = rw y at e in
          absurd (omega (arith, ltb-true w 65535 x, eqb-true w 65535 z))
      go false x b y =
          let z : None ≡ Some k = rw x at p in
          let q : true ≡ false = cc in
          absurd (true≢false q)

  -- the same of a kind's word, read under the count
  under : (f k : ℕ) {d : ℕ} → is_table t ≡ true → ((k : ℕ) → k < word t 0 → link_fine t (word t (kind_place k + f)) ≡ true) → below (kinds_in t) None (λ k. index_or (word t (kind_place k + f))) k ≡ Some d → d < word t 0
  unfolding below
  under f k {d} e h p = go (ltb k (kinds_in t)) refl
    where
      go : (b : Bool) → ltb k (kinds_in t) ≡ b → d < word t 0
      go true x =
          let z : index_or (word t (kind_place k + f)) ≡ Some d = rw x at p in
          link_told (word t (kind_place k + f)) (h k (omega (arith, ltb-true k (kinds_in t) x))) z
      go false x =
          let z : None ≡ Some d = rw x at p in
          let q : true ≡ false = cc in
          absurd (true≢false q)

-- ---- the marks of kind k
module _ (t : List ℕ) (k : ℕ) (e : is_table t ≡ true) (h : k < word t 0) where
  marks_told : marks_fine t (kind_place k) ≡ true
  unfolding kind_fine
  marks_told = and_left (marks_fine t (kind_place k)) (exponents_fine t (kind_place k)) (kind_told t k e h)

  exponents_told : exponents_fine t (kind_place k) ≡ true
  unfolding kind_fine
  exponents_told = and_right (marks_fine t (kind_place k)) (exponents_fine t (kind_place k)) (kind_told t k e h)

  marks_parts :
      (ltb (word t (kind_place k + 25)) 4 ≡ true) × (cond (eqb (word t (kind_place k + 26)) 1) (is_kind t (word t (kind_place k + 27))) (eqb (word t (kind_place k + 27)) 65535) ≡ true)
      × (link_fine t (word t (kind_place k + 28)) ≡ true) × (link_fine t (word t (kind_place k + 29)) ≡ true)
  unfolding marks_fine
  marks_parts =
      six (ltb (word t (kind_place k + 24)) 2) (ltb (word t (kind_place k + 25)) 4) (ltb (word t (kind_place k + 26)) 3)
      (cond (eqb (word t (kind_place k + 26)) 1) (is_kind t (word t (kind_place k + 27))) (eqb (word t (kind_place k + 27)) 65535))
      (link_fine t (word t (kind_place k + 28))) (link_fine t (word t (kind_place k + 29))) marks_told

  either : (r a b : Bool) → cond r a b ≡ true → (a || b) ≡ true
  either true true b x = refl
  either true false b x = absurd (true≢false (sym x))
  either false true b x = refl
  either false false b x = x

  difference_told : link_fine t (word t (kind_place k + 27)) ≡ true
  difference_told = either (eqb (word t (kind_place k + 26)) 1) (is_kind t (word t (kind_place k + 27))) (eqb (word t (kind_place k + 27)) 65535) marks_parts.1

  declared_at : (b : ℕ) → eqb (word t (kind_place k + 24)) 1 ≡ true → b < 12 → F.Declared (exponent_from t (kind_place k) b)
  unfolding exponents_fine
  declared_at b x l =
      let z : all (λ b. F.declared (exponent_from t (kind_place k) b)) 12 ≡ true = rw x at exponents_told in
      declared_told (exponent_from t (kind_place k) b) (all_at (λ b. F.declared (exponent_from t (kind_place k) b)) 12 b z l)

  dims_declared : eqb (word t (kind_place k + 24)) 1 ≡ true → D.Declared (dims_from t (kind_place k))
  unfolding dims_from
  dims_declared x = record {
    twelve = length_tab (exponent_from t (kind_place k)) 12;
    declared = λ b l. rw (tab_at (exponent_from t (kind_place k)) 12 b F.zero l) (declared_at b x l);
  }

-- ---- what is read of a table
module _ (t : List ℕ) where
  pub table_grade : (k : ℕ) → is_table t ≡ true → (kinds_of t).grade k < 4
  unfolding kinds_of below
  table_grade k e = go (ltb k (kinds_in t)) refl
    where
      go : (b : Bool) → ltb k (kinds_in t) ≡ b → cond (ltb k (kinds_in t)) (word t (kind_place k + 25)) 0 < 4
      go true x = rw x (ltb-true (word t (kind_place k + 25)) 4 (marks_parts t k e (omega (arith, ltb-true k (kinds_in t) x))).0)
      go false x = rw x (omega arith)

  pub table_dims : (k : ℕ) {d : Dimensions} → is_table t ≡ true → (kinds_of t).dims k ≡ Some d → D.Declared d
  unfolding kinds_of below
  table_dims k {d} e p = go (ltb k (kinds_in t)) refl (eqb (word t (kind_place k + 24)) 1) refl
    where
      clash : None ≡ Some d → D.Declared d
      clash z = let q : true ≡ false = cc in absurd (true≢false q)

      go : (a : Bool) → ltb k (kinds_in t) ≡ a → (b : Bool) → eqb (word t (kind_place k + 24)) 1 ≡ b → D.Declared d
      go true x true y =
          let z : Some (dims_from t (kind_place k)) ≡ Some d = rw (x, y) at p in
          let q : dims_from t (kind_place k) ≡ d = cc in
          rw (← q) (dims_declared t k e (omega (arith, ltb-true k (kinds_in t) x)) y)
      go true x false y = let z : None ≡ Some d = rw (x, y) at p in clash z
      go false x b y = let z : None ≡ Some d = rw x at p in clash z

  pub table_difference : (k : ℕ) {d : ℕ} → is_table t ≡ true → (kinds_of t).difference k ≡ Some d → d < (kinds_of t).count
  unfolding kinds_of
  table_difference k e p = rw (table_count t e) (under t 27 k e (λ m h. difference_told t m e h) p)

  pub table_target : (k : ℕ) {d : ℕ} → is_table t ≡ true → (kinds_of t).rate_of k ≡ Some d → d < (kinds_of t).count
  unfolding kinds_of
  table_target k e p = rw (table_count t e) (under t 28 k e (λ m h. (marks_parts t m e h).2) p)

  pub table_rate : (k : ℕ) {d : ℕ} → is_table t ≡ true → (kinds_of t).rate k ≡ Some d → d < (kinds_of t).count
  unfolding kinds_of
  table_rate k e p = rw (table_count t e) (under t 29 k e (λ m h. (marks_parts t m e h).3) p)

  pub table_dimensionless : {d : ℕ} → is_table t ≡ true → (kinds_of t).dimensionless ≡ Some d → d < (kinds_of t).count
  unfolding kinds_of
  table_dimensionless e p = rw (table_count t e) (link_told t (word t 2) (head_parts t e).2 p)

  pub table_time : {d : ℕ} → is_table t ≡ true → (kinds_of t).time ≡ Some d → d < (kinds_of t).count
  unfolding kinds_of
  table_time e p = rw (table_count t e) (link_told t (word t 3) (head_parts t e).3 p)

  pub table_duration : {d : ℕ} → is_table t ≡ true → duration (kinds_of t) ≡ Some d → d < (kinds_of t).count
  table_duration {d} e p = go (kinds_of t).time p
    where
      go : (o : Option ℕ) → found o (kinds_of t).difference None ≡ Some d → d < (kinds_of t).count
      go (Some k) q = table_difference k e q
      go None q = let z : true ≡ false = cc in absurd (true≢false z)

-- ---- a row over a table names a kind of it
module _ (t s : List ℕ) where
  row_told : (i : ℕ) → are_rows t s ≡ true → i < length s / 4 → word s (4 * i + 3) < word t 0
  unfolding are_rows row_fine
  row_told i e h =
      let z = all_at (λ i. row_fine t s (4 * i)) (length s / 4) i (and_right (eqb (length s % 4) 0) (all (λ i. row_fine t s (4 * i)) (length s / 4)) e) h in
      ltb-true (word s (4 * i + 3)) (word t 0)
      (four (is_kind t (word s (4 * i))) (ltb (word s (4 * i + 1)) 4) (is_kind t (word s (4 * i + 2))) (is_kind t (word s (4 * i + 3))) z).3

  pub rows_kind : (l : ℕ) (op : ProductOp) (r : ℕ) {k : ℕ} → is_table t ≡ true → are_rows t s ≡ true → rows_of s l op r ≡ Some k → k < (kinds_of t).count
  unfolding rows_of
  rows_kind l op r {k} e a p = rw (table_count t e) (go (first (is_row s l op r) (length s / 4)) refl)
    where
      named : (i : ℕ) → i < length s / 4 → index_or (word s (4 * i + 3)) ≡ Some k → k < word t 0
      named i h q = step (ltb (word s (4 * i + 3)) 65535) refl
        where
          step : (b : Bool) → ltb (word s (4 * i + 3)) 65535 ≡ b → k < word t 0
          step true x =
              let z : Some (word s (4 * i + 3)) ≡ Some k = rw x at q in
              let y : word s (4 * i + 3) ≡ k = cc in
              rw (← y) (row_told i a h)
          step false x =
              let z : None ≡ Some k = rw x at q in
              let y : true ≡ false = cc in
              absurd (true≢false y)

      go : (o : Option ℕ) → first (is_row s l op r) (length s / 4) ≡ o → k < word t 0
      go (Some i) x =
          let z : index_or (word s (4 * i + 3)) ≡ Some k = rw x at p in
          named i (first_below (is_row s l op r) (length s / 4) x) z
      go None x =
          let z : None ≡ Some k = rw x at p in
          let y : true ≡ false = cc in
          absurd (true≢false y)

pub ruleset tells = (
  table_few,
  table_rows_few,
  table_count,
  table_grade,
  table_dims,
  table_difference,
  table_target,
  table_rate,
  table_dimensionless,
  table_time,
  table_duration,
  rows_kind,
)
