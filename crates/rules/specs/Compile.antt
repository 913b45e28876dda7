-- Compilation, "then as `Registry::compile`: all ids (empty, then duplicate, kind by kind); differences; dimensionless; time; rates in kind order;
-- rows in order". A rule for each record, over the kinds that the whole catalog comes to: each reads only what earlier rules have checked.
use Rattle.std.specs.Prelude.{ℕ, Bool, false, cond, not, ◌&&◌, List, eqb}
use Rattle.std.specs.declared.option.Option.{Option}
use Rattle.std.specs.declared.option.Option.TheVariants.{Some}
use Rattle.laws.specs.Options.{found, is_some}
use Rattle.laws.specs.Out.{given, refused, ◌>>=◌, ◌>>◌, refuse_if, refuse_found, needed, each}
use Rattle.laws.specs.Ranges.{first}
use Rattle.dimension.specs.Dimension as D
use Rattle.dimension.specs.declared.dimensions.Dimensions.{Dimensions}
use Rattle.dimension.specs.declared.grade.ProductOp.TheVariants.{Div}
use Rattle.rules.specs.Kinds.{Kinds, Rows, Graded, same_op, point, duration, carries}
use Rattle.rules.specs.Refusal.{Answer, Placed, at, EmptyId, Duplicate, Unknown, AffineDimensionMismatch, NestedAffineSpace, InvalidDimensionlessKind, InvalidTimeKind, NoTimeKind, PointRate, RateMismatch, AlsoRateOf, CommutativeQuotient, Point, InvalidOperationRule, DerivedOperationRule, ConflictingOperationRule}
use Rattle.rules.specs.Arithmetic.{operand, derive, resolve, settle}
use Rattle.rules.specs.Catalog.{Id, blank, same, Catalog, find, rate_among, role, kinds_of, row_among, rows_of}

-- a rule that only refuses
abbrev pub Checked : Type 0
Checked = Answer (Unit {0})

-- a rule for what is declared
abbrev pub if_declared : Id → Checked → Checked
if_declared id rule = cond (blank id) (given tt) rule

-- 13, "also where just one of the two is unresolved"; two unresolved kinds are alike
abbrev pub same_dims : Option Dimensions → Option Dimensions → Bool
same_dims a b = found a (λ x. found b (D.equal x) false) (not (is_some b))

module _ (C : Catalog) where
  -- the kinds that the catalog comes to
  abbrev K : Kinds
  K = kinds_of C

  -- 12
  unfoldable pub called : ℕ → Id → Answer ℕ
  called i id = needed (find C id) (Unknown i)

  -- "all ids (empty, then duplicate, kind by kind)": 10, 11
  unfoldable pub id_rule : ℕ → Checked
  id_rule k = do
    refuse_if (blank (C.kind k).id) (EmptyId k)
    refuse_found (first (λ j. same (C.kind j).id (C.kind k).id) k) (λ j. Duplicate k)

  -- "Difference: 12, 13 (also where just one of the two is unresolved), 14."
  unfoldable pub difference_rule : ℕ → Checked
  difference_rule k = if_declared (C.kind k).difference (do
    d ← called k (C.kind k).difference
    refuse_if (not (same_dims (C.kind k).dims (C.kind d).dims)) (AffineDimensionMismatch k d)
    refuse_if (not (blank (C.kind d).difference)) (NestedAffineSpace k d))

  -- "Dimensionless: 12, then 15."
  unfoldable pub dimensionless_rule : Checked
  dimensionless_rule = if_declared C.dimensionless (do
    o ← called 0 C.dimensionless
    refuse_if (not (eqb (role C o) 0 && same_dims (C.kind o).dims (Some D.one))) (InvalidDimensionlessKind o))

  -- "Time: 12, then 16."
  unfoldable pub time_rule : Checked
  time_rule = if_declared C.time (do
    t ← called 0 C.time
    refuse_if (not (point K t && eqb (C.kind t).grade 0)) (InvalidTimeKind t))

  -- "Rate: 12, 17, 18 (rate kind, then target), 19 (rate, target, duration), 20, 21."
  unfoldable pub rate_rule : ℕ → Checked
  rate_rule k = if_declared (C.kind k).rate_of (do
    t ← called k (C.kind k).rate_of
    d ← needed (duration K) (NoTimeKind k t)
    refuse_if (point K k) (PointRate k t k)
    refuse_if (point K t) (PointRate k t t)
    a ← operand K k
    operand K t
    c ← operand K d
    x ← given (record { dims = D.or_one (D.product a c); grade = K.grade k })
    refuse_if (not (carries K x t)) (RateMismatch x)
    refuse_found (rate_among C k t) AlsoRateOf)

  -- 26: "it is accepted only where several kinds fit"; 25 where none does. That "it names one of them" is asked before
  abbrev pub several : List ℕ → Graded → Checked
  several ks x = settle ks (refused (InvalidOperationRule x)) (λ k. refused (DerivedOperationRule k)) (λ more. given tt)

  -- 27: no earlier row is for left, operation and right
  unfoldable pub fresh : ℕ → ℕ → ℕ → Checked
  fresh i l r = refuse_found (row_among C i l (C.row i).op r) (λ j. ConflictingOperationRule l r)

  -- "Row: 22 before any id is looked up; 12 (left, right, result); 23 and 19 for the result; the derivation's refusals; 25; 26; 27, for the turned
  -- pair too."
  unfoldable pub row_rule : ℕ → Checked
  row_rule i = do
    refuse_if ((C.row i).commutative && same_op (C.row i).op Div) (CommutativeQuotient i)
    l ← called i (C.row i).left
    r ← called i (C.row i).right
    k ← called i (C.row i).result
    refuse_if (point K k) (Point l (C.row i).op r k)
    operand K k
    x ← derive K l (C.row i).op r
    refuse_if (not (carries K x k)) (InvalidOperationRule x)
    several (resolve K l (C.row i).op r x) x
    fresh i l r
    cond (C.row i).commutative (fresh i r l) (given tt)

  -- "other faults the compiled record (kind or row) ..; header ids byte 12 or 44"
  abbrev pub each_record : (ℕ → Checked) → ℕ → Placed (Unit {0})
  each_record rule n = each (λ k. at k (rule k)) n

  -- "all ids ..; differences; dimensionless; time; rates in kind order; rows in order"
  unfoldable pub compiles : Placed (Unit {0})
  compiles = do
    each_record id_rule C.kind_count
    each_record difference_rule C.kind_count
    at 12 dimensionless_rule
    at 44 time_rule
    each_record rate_rule C.kind_count
    each_record row_rule C.row_count

-- what a compilation gives
abbrev pub Compiled : Type 0
Compiled = record { kinds : Kinds; rows : Rows }

-- the rules of every record, then the kinds and rows
unfoldable pub compile : Catalog → Placed Compiled
compile C = compiles C >> given (record { kinds = kinds_of C; rows = rows_of C })
