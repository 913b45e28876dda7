-- A catalog that compiles guarantees what demand 3 asks, and a catalog with more rows has more rows in force. Assumes nothing.
use Prim.Native.Nat.{ℕ, ◌<◌, ◌≤◌}
use mathlib.Core.Path.{◌≡◌, refl, ◌∙◌, subst}
use mathlib.Core.Bool.{true, false, true≢false}
use Rattle.std.specs.declared.option.Option.{Option}
use Rattle.std.specs.declared.option.Option.TheVariants.{None, Some}
use Rattle.laws.specs.Out.{Out, given}
use Rattle.laws.proofs.Checks.{then_given}
use Rattle.laws.proofs.First.{first_below, first_passes, first_here}
use Rattle.dimension.specs.Dimension as D
use Rattle.dimension.specs.declared.dimensions.Dimensions.{Dimensions}
use Rattle.dimension.specs.declared.grade.ProductOp.{ProductOp}
use Rattle.dimension.proofs.DimensionLaws as L
use Rattle.rules.specs.Kinds.{duration}
use Rattle.rules.specs.Refusal.{at}
use Rattle.rules.specs.Catalog.{Catalog, find, covers, row_among, kinds_of, rows_of}
use Rattle.rules.specs.Compile.{id_rule, difference_rule, dimensionless_rule, time_rule, rate_rule, row_rule, each_record, compiles, Compiled, compile}
use Rattle.guarantees.specs.Larger.{Extends}
use Rattle.guarantees.specs.Premises.{IsRow, Guaranteed}
use Rattle.guarantees.specs.Images.{MoreRows}
use Rattle.guarantees.proofs.Given.{at_given, record_given, agreed_some}
use Rattle.guarantees.proofs.KindRules.{Quiet, difference_in, target_in, rate_names, difference_tells, dimensionless_tells, time_tells, rate_tells}
use Rattle.guarantees.proofs.Turned.{row_turned}
use Rattle.guarantees.proofs.RowRules.{Covered, direct, turned, covers_tells, Accepted, row_tells}

-- ---- each rule has given
pub record Passed (C : Catalog) : Type 0 where
  pub ids : (k : ℕ) → k < C.kind_count → id_rule C k ≡ given tt
  pub differences : (k : ℕ) → k < C.kind_count → difference_rule C k ≡ given tt
  pub dimensionless : dimensionless_rule C ≡ given tt
  pub time : time_rule C ≡ given tt
  pub rates : (k : ℕ) → k < C.kind_count → rate_rule C k ≡ given tt
  pub rows : (i : ℕ) → i < C.row_count → row_rule C i ≡ given tt

abbrev pub compiled_of : Catalog → Compiled
compiled_of C = record { kinds = kinds_of C; rows = rows_of C }

inner : {E A : Type 0} {a b : A} → ◌≡◌ {A = Out E A} (given a) (given b) → a ≡ b
inner p = cc

pub passes : (C : Catalog) → compiles C ≡ given tt → Passed C
unfolding compiles
passes C e =
    let a = then_given (each_record C (id_rule C) C.kind_count) _ e in
    let b = then_given (each_record C (difference_rule C) C.kind_count) _ a.2 in
    let c = then_given (at 12 (dimensionless_rule C)) _ b.2 in
    let d = then_given (at 44 (time_rule C)) _ c.2 in
    let f = then_given (each_record C (rate_rule C) C.kind_count) _ d.2 in
    record {
      ids = record_given C (id_rule C) C.kind_count a.1;
      differences = record_given C (difference_rule C) C.kind_count b.1;
      dimensionless = at_given 12 (dimensionless_rule C) c.1;
      time = at_given 44 (time_rule C) d.1;
      rates = record_given C (rate_rule C) C.kind_count f.1;
      rows = record_given C (row_rule C) C.row_count f.2;
    }

pub compile_tells : (C : Catalog) (c : Compiled) → compile C ≡ given c → Passed C × (compiled_of C ≡ c)
unfolding compile
compile_tells C c e = let a = then_given (compiles C) _ e in (passes C a.1, inner a.2)

-- ---- an accepted row, for each left, operation and right that it is one for
module _ (C : Catalog) (i : ℕ) (a : Accepted C i) (l : ℕ) (op : ProductOp) (r : ℕ) where
  covered_row : ((k : ℕ) (d : Dimensions) → (kinds_of C).dims k ≡ Some d → D.Sound d) → Covered C l op r (C.row i) → IsRow (kinds_of C) l op r a.result
  covered_row sound (direct o p q) =
      let z = agreed_some a.finds_left p in
      let y = agreed_some a.finds_right q in
      rw (z, y, o) at a.row
  covered_row sound (turned c o p q) =
      let z = agreed_some a.finds_left p in
      let y = agreed_some a.finds_right q in
      rw (z, y, o) at (row_turned (kinds_of C) a.left (C.row i).op a.right (a.no_quotient c) sound a.row)

  pub covered_only : Covered C l op r (C.row i) → row_among C i l op r ≡ None
  covered_only (direct o p q) =
      let z = agreed_some a.finds_left p in
      let y = agreed_some a.finds_right q in
      rw (z, y, o) at a.only
  covered_only (turned c o p q) =
      let z = agreed_some a.finds_left p in
      let y = agreed_some a.finds_right q in
      rw (z, y, o) at (a.only_turned c)

module _ (C : Catalog) (passed : Passed C) where
  -- 27: any row of the catalog for left, operation and right is the one in force
  pub in_force_law : (l : ℕ) (op : ProductOp) (r i : ℕ) → i < C.row_count → covers C l op r (C.row i) ≡ true → rows_of C l op r ≡ find C (C.row i).result
  unfolding rows_of row_among
  in_force_law l op r i h t =
      let n = covered_only C i (row_tells C i (passed.rows i h)) l op r (covers_tells C l op r (C.row i) t) in
      rw (first_here (λ i. covers C l op r (C.row i)) i C.row_count h n refl t)

  -- and what is in force stands in a row
  pub row_from_law : (l : ℕ) (op : ProductOp) (r k : ℕ) → rows_of C l op r ≡ Some k
      → (i : ℕ) × (i < C.row_count) × (covers C l op r (C.row i) ≡ true) × (find C (C.row i).result ≡ Some k)
  unfolding rows_of row_among
  row_from_law l op r k e = go (row_among C C.row_count l op r) refl
    where
      go : (o : Option ℕ) → row_among C C.row_count l op r ≡ o → (i : ℕ) × (i < C.row_count) × (covers C l op r (C.row i) ≡ true) × (find C (C.row i).result ≡ Some k)
      go None p = let h : None ≡ Some k = rw p at e in let z : true ≡ false = cc in absurd (true≢false z)
      go (Some i) p =
          (i, first_below (λ i. covers C l op r (C.row i)) C.row_count p, first_passes (λ i. covers C l op r (C.row i)) C.row_count p, rw p at e)

  module _ (quiet : Quiet C) (grade : (k : ℕ) → (C.kind k).grade ≤ 3) (declared : (k : ℕ) (a : Dimensions) → (C.kind k).dims ≡ Some a → D.Declared a) where
    row_is : (l : ℕ) (op : ProductOp) (r k : ℕ) → rows_of C l op r ≡ Some k → IsRow (kinds_of C) l op r k
    unfolding kinds_of
    row_is l op r k e =
        let f = row_from_law l op r k e in
        let a = row_tells C f.0 (passed.rows f.0 f.1) in
        let z : a.result ≡ k = agreed_some a.finds_result f.3 in
        let g = covered_row C f.0 a l op r (λ k d h. L.declared_sound d (declared k d h)) (covers_tells C l op r (C.row f.0) f.2) in
        subst (λ (j : ℕ). IsRow (kinds_of C) l op r j) z g

    pub guaranteed : Guaranteed (kinds_of C) (rows_of C)
    unfolding kinds_of
    guaranteed = record {
      grade = grade;
      declared = declared;
      difference = λ k d e. (difference_tells C k d (passed.differences k (difference_in C quiet k e)) e).0;
      dimensionless = λ o e. (dimensionless_tells C o passed.dimensionless e).0;
      rate_of = λ k t e. let h = target_in C quiet k e in (rate_tells C k t h (passed.rates k h) e).0;
      rate = rate_names C;
      row = row_is;
    }

-- a catalog that compiles has a scalar time kind (16): so where each point has its difference's grade, duration is scalar
pub duration_follows : (C : Catalog) → Passed C → ((k d : ℕ) → (kinds_of C).difference k ≡ Some d → (kinds_of C).grade d ≡ (kinds_of C).grade k)
    → (d : ℕ) → duration (kinds_of C) ≡ Some d → (kinds_of C).grade d ≡ 0
duration_follows C passed points d e = go (kinds_of C).time refl
  where
    go : (o : Option ℕ) → (kinds_of C).time ≡ o → (kinds_of C).grade d ≡ 0
    go None p = let h : None ≡ Some d = rw p at e in let z : true ≡ false = cc in absurd (true≢false z)
    go (Some t) p = points t d (rw p at e) ∙ (time_tells C t passed.time p).1

pub extends : (S L : Catalog) → Passed S → Passed L → MoreRows S L → Extends (rows_of S) (rows_of L)
extends S L p q f l op r k e =
    let a = row_from_law S p l op r k e in
    let b = f a.0 a.1 l op r a.2 in
    in_force_law L q l op r b.0 b.1 b.2 ∙ b.3 ∙ a.3
