-- What the code's answers show of the rules, and the rules from a step on.
use Rattle.std.specs.Prelude.{ℕ, ◌-◌, ◌≡◌, Bool, false, cond, not, ◌&&◌, List, ◌++◌, eqb, length, replicate}
use Rattle.std.specs.declared.option.Option.TheVariants.{Some}
use Rattle.std.specs.declared.result.Result.{Result}
use Rattle.laws.specs.Options.{is_some}
use Rattle.laws.specs.Out.{given, ◌>>=◌, ◌>>◌, refuse_if, refuse_found, needed, each}
use Rattle.laws.specs.Ranges.{first}
use Rattle.dimension.specs.Dimension as D
use Rattle.dimension.specs.declared.dimensions.Dimensions.{Dimensions}
use Rattle.rules.specs.Kinds.{Kinds, point, duration, carries}
use Rattle.rules.specs.Refusal.{Placed, at, AffineDimensionMismatch, NestedAffineSpace, InvalidDimensionlessKind, InvalidTimeKind, NoTimeKind, PointRate, RateMismatch, AlsoRateOf}
use Rattle.rules.specs.Arithmetic.{operand}
use Rattle.rules.specs.Catalog.{Catalog, catalog_in, blank, same, meant, rate_among, role, kinds_of}
use Rattle.rules.specs.Compile.{Checked, Compiled, same_dims, id_rule, difference_rule, dimensionless_rule, time_rule, rate_rule, each_record}
use Rattle.rules.specs.Table as T
use Rattle.error.specs.Shown.{fine, shown}
use Rattle.error.specs.declared.fault.Fault.{Fault}

-- a rule of the record or byte p
unfoldable pub ruled : ℕ → Checked → Result (Unit {0}) Fault
ruled p m = fine (at p m)

-- a rule of each of n records
unfoldable pub ruled_all : (ℕ → Checked) → ℕ → Result (Unit {0}) Fault
ruled_all rule n = fine (each (λ k. at k (rule k)) n)

-- a compilation that succeeds hands back nothing but that
unfoldable pub compiled : Placed Compiled → Result (Unit {0}) Fault
compiled m = shown (λ c. tt) m

-- the words t are read as the kinds that the image s declares
abbrev pub Reads : List ℕ → List ℕ → Type 0
Reads t s = T.kinds_of t ≡ kinds_of (catalog_in s)

-- the words of a table with these front and rows, and zeros between them
unfoldable pub whole : List ℕ → List ℕ → List ℕ
whole front rows = front ++ (replicate (7696 - length front) 0 ++ rows)

-- all rules of kinds
unfoldable pub kinds_ruled : Catalog → Placed (Unit {0})
kinds_ruled C = do
  each_record C (id_rule C) C.kind_count
  each_record C (difference_rule C) C.kind_count
  at 12 (dimensionless_rule C)
  at 44 (time_rule C)
  each_record C (rate_rule C) C.kind_count

-- 11: an earlier kind has the id
unfoldable pub repeated : Catalog → ℕ → Bool
repeated C k = is_some (first (λ j. same (C.kind j).id (C.kind k).id) k)

-- 13 and 14, of kind k with difference d
unfoldable pub differed : Catalog → ℕ → ℕ → Checked
differed C k d = do
  refuse_if (not (same_dims (C.kind k).dims (C.kind d).dims)) (AffineDimensionMismatch k d)
  refuse_if (not (blank (C.kind d).difference)) (NestedAffineSpace k d)

-- a kind that some kind has as its difference
unfoldable pub is_difference_in : Kinds → ℕ → Bool
is_difference_in K k = is_some (first (λ j. meant k (K.difference j)) K.count)

unfoldable pub linear_one : Kinds → ℕ → Bool
linear_one K k = cond (point K k) false (cond (is_difference_in K k) false (same_dims (K.dims k) (Some D.one)))

-- 15, of the dimensionless kind o
unfoldable pub neutral_kind : Catalog → ℕ → Checked
neutral_kind C o = refuse_if (not (eqb (role C o) 0 && same_dims (C.kind o).dims (Some D.one))) (InvalidDimensionlessKind o)

-- 16, of the time kind t
unfoldable pub time_kind : Catalog → ℕ → Checked
time_kind C t = refuse_if (not (point (kinds_of C) t && eqb (C.kind t).grade 0)) (InvalidTimeKind t)

-- ---- a rate k of t over the duration d, from 21, 20, 18 and 17 on
unfoldable pub rate_once : Catalog → ℕ → ℕ → Checked
rate_once C k t = refuse_found (rate_among C k t) AlsoRateOf

-- a and c are the dimensions of the rate and of the duration
unfoldable pub rate_fits : Catalog → ℕ → ℕ → Dimensions → Dimensions → Checked
rate_fits C k t a c = do
  x ← given (record { dims = (D.or_one (D.product a c)); grade = (kinds_of C).grade k })
  refuse_if (not (carries (kinds_of C) x t)) (RateMismatch x)
  rate_once C k t

unfoldable pub rate_over : Catalog → ℕ → ℕ → ℕ → Checked
rate_over C k t d = do
  refuse_if (point (kinds_of C) k) (PointRate k t k)
  refuse_if (point (kinds_of C) t) (PointRate k t t)
  a ← operand (kinds_of C) k
  operand (kinds_of C) t
  c ← operand (kinds_of C) d
  rate_fits C k t a c

unfoldable pub rate_for : Catalog → ℕ → ℕ → Checked
rate_for C k t = do
  d ← needed (duration (kinds_of C)) (NoTimeKind k t)
  rate_over C k t d
