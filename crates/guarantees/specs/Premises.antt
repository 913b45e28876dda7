-- The premises of demand 3, over what two compilations come to. `Guaranteed` is what "both catalogs compile" tells of one of them: proofs/Images shows
-- it of every image that compiles (`image_guaranteed`). `Scalars` are the premises that the task adds.
use Rattle.std.specs.Prelude.{ℕ, ◌<◌, ◌≤◌, ◌≡◌, true, length}
use Rattle.std.specs.declared.option.Option.TheVariants.{None, Some}
use Rattle.laws.specs.Out.{given}
use Rattle.dimension.specs.Dimension as D
use Rattle.dimension.specs.declared.dimensions.Dimensions.{Dimensions}
use Rattle.dimension.specs.declared.grade.ProductOp.{ProductOp}
use Rattle.rules.specs.Kinds.{Kinds, Rows, Graded, duration, carries}
use Rattle.rules.specs.Arithmetic.{derive, resolve}
use Rattle.guarantees.specs.Larger.{Extends}

-- 13: "difference of other dimensions"; both may be unresolved
pub record IsDifference (K : Kinds) (k d : ℕ) : Type 0 where
  pub below : d < K.count
  pub dims : K.dims d ≡ K.dims k

-- 15: "dimensionless not linear and dimension one"
pub record IsDimensionless (K : Kinds) (o : ℕ) : Type 0 where
  pub below : o < K.count
  pub linear : K.difference o ≡ None
  pub dims : K.dims o ≡ Some D.one

-- 17 to 20: neither is a point, and "rate × duration" has the target's dimensions, the grades being equal
pub record IsRate (K : Kinds) (k t : ℕ) : Type 0 where
  pub below : (k < K.count) × (t < K.count)
  pub no_points : (K.difference k ≡ None) × (K.difference t ≡ None)
  pub dims : Dimensions
  pub resolved : K.dims k ≡ Some dims
  pub fits : (d : ℕ) (b : Dimensions) → duration K ≡ Some d → K.dims d ≡ Some b → carries K (record { dims = D.or_one (D.product dims b); grade = K.grade k }) t ≡ true

-- 23 to 26: "it is accepted only where several kinds fit and it names one of them"
pub record IsRow (K : Kinds) (l : ℕ) (op : ProductOp) (r k : ℕ) : Type 0 where
  pub below : k < K.count
  pub no_point : K.difference k ≡ None
  pub of : Graded
  pub derived : derive K l op r ≡ given of
  pub carried : carries K of k ≡ true
  pub several : 2 ≤ length (resolve K l op r of)

-- what a compilation guarantees of its kinds and rows
pub record Guaranteed (K : Kinds) (rows : Rows) : Type 0 where
  -- 4: "grade 0 to 3"; twelve exponents of 16-bit parts, "reduced on reading"
  pub grade : (k : ℕ) → K.grade k ≤ 3
  pub declared : (k : ℕ) (a : Dimensions) → K.dims k ≡ Some a → D.Declared a
  pub difference : (k d : ℕ) → K.difference k ≡ Some d → IsDifference K k d
  pub dimensionless : (o : ℕ) → K.dimensionless ≡ Some o → IsDimensionless K o
  pub rate_of : (k t : ℕ) → K.rate_of k ≡ Some t → IsRate K k t
  -- "the target over duration its rate": which is the way back of `rate_of`
  pub rate : (k t : ℕ) → K.rate t ≡ Some k → K.rate_of k ≡ Some t
  -- for the turned pair of a commutative row too; that a pair has one row is 27
  pub row : (l : ℕ) (op : ProductOp) (r k : ℕ) → rows l op r ≡ Some k → IsRow K l op r k

-- "the dimensionless and duration kinds, where declared, are scalar; each point kind has its difference kind's grade"
pub record Scalars (K : Kinds) : Type 0 where
  pub dimensionless : (o : ℕ) → K.dimensionless ≡ Some o → K.grade o ≡ 0
  pub duration : (d : ℕ) → duration K ≡ Some d → K.grade d ≡ 0
  pub points : (k d : ℕ) → K.difference k ≡ Some d → K.grade d ≡ K.grade k

-- "both catalogs compile, with the same list of kinds, dimensionless kind and time kind; the larger has every row of the smaller"
pub record Premises (K : Kinds) (small large : Rows) : Type 0 where
  pub compiles : Guaranteed K small
  pub compiles_too : Guaranteed K large
  pub more : Extends small large
  pub scalars : Scalars K
