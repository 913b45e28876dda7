-- What a compilation guarantees: of the catalog C that an image declares, of the kinds and rows c that it comes to, and of the words t that it leaves.
-- proofs/WellCompiled shows it of every image that compiles (`well_compiled`).
use Rattle.std.specs.Prelude.{ℕ, ◌+◌, ◌<◌, ◌≤◌, ◌≡◌, true, false, List, length, get_or}
use Rattle.std.specs.declared.option.Option.TheVariants.{None, Some}
use Rattle.laws.specs.Out.{given}
use Rattle.dimension.specs.Dimension as D
use Rattle.dimension.specs.declared.dimensions.Dimensions.{Dimensions}
use Rattle.dimension.specs.declared.grade.ProductOp.{ProductOp}
use Rattle.rules.specs.Kinds.{Kinds, Graded, duration, carries, candidates, op_word}
use Rattle.rules.specs.Arithmetic.{derive}
use Rattle.rules.specs.Catalog.{Catalog, find, covers, role, kinds_of}
use Rattle.rules.specs.Compile.{Compiled}
use Rattle.rules.specs.Table.{word, kind_place, row_place}

-- "compiled differences have equal dimensions and are no points": d is k's
pub record FittingDifference (K : Kinds) (k d : ℕ) : Type 0 where
  pub below : d < K.count
  pub dims : K.dims d ≡ K.dims k
  pub no_point : K.difference d ≡ None

-- "rates fit (dimensions and grades), neither side a point": k is t's, and times the duration has exactly t's dimensions
pub record FittingRate (K : Kinds) (k t : ℕ) : Type 0 where
  pub no_points : (K.difference k ≡ None) × (K.difference t ≡ None)
  pub over : ℕ
  pub timed : duration K ≡ Some over
  pub rate_dims : Dimensions
  pub over_dims : Dimensions
  pub resolved : (K.dims k ≡ Some rate_dims) × (K.dims over ≡ Some over_dims)
  pub dims : K.dims t ≡ Some (D.or_one (D.product rate_dims over_dims))
  pub grades : K.grade t ≡ K.grade k

-- "the dimensionless kind is linear and of dimension one"
pub record LinearOne (K : Kinds) (o : ℕ) : Type 0 where
  pub below : o < K.count
  pub no_point : K.difference o ≡ None
  pub no_difference : (j : ℕ) → K.difference j ≡ Some o → ⊥
  pub dims : K.dims o ≡ Some D.one

-- "time is a scalar point"
pub record ScalarPoint (K : Kinds) (t : ℕ) : Type 0 where
  pub over : ℕ
  pub is_point : K.difference t ≡ Some over
  pub scalar : K.grade t ≡ 0

-- "every row in force fits in dimensions and grade, names one of at least two candidates": k, for left, operation and right
pub record FittingRow (K : Kinds) (l : ℕ) (op : ProductOp) (r k : ℕ) : Type 0 where
  pub of : Graded
  pub derived : derive K l op r ≡ given of
  pub dims : K.dims k ≡ Some of.dims
  pub grade : K.grade k ≡ of.grade
  pub several : 2 ≤ length (candidates K of)
  pub place : ℕ
  pub among : place < length (candidates K of)
  pub named : get_or (candidates K of) place 0 ≡ k

-- word f of row m in force
abbrev pub row_entry : List ℕ → ℕ → ℕ → ℕ
row_entry t m f = word t (row_place m + f)

pub record WellCompiled (C : Catalog) (c : Compiled) (t : List ℕ) : Type 0 where
  pub differences : (k d : ℕ) → c.kinds.difference k ≡ Some d → FittingDifference c.kinds k d
  pub rates : (k s : ℕ) → c.kinds.rate_of k ≡ Some s → FittingRate c.kinds k s
  -- "each target at most one rate"
  pub one_rate : (j k s : ℕ) → c.kinds.rate_of j ≡ Some s → c.kinds.rate_of k ≡ Some s → j ≡ k
  pub dimensionless : (o : ℕ) → c.kinds.dimensionless ≡ Some o → LinearOne c.kinds o
  pub time : (k : ℕ) → c.kinds.time ≡ Some k → ScalarPoint c.kinds k
  pub rows : (l : ℕ) (op : ProductOp) (r k : ℕ) → c.rows l op r ≡ Some k → FittingRow c.kinds l op r k
  -- "and no pair stands twice": of the rows that are declared, the turned pair of a commutative one counting too,
  pub one_row : (l : ℕ) (op : ProductOp) (r i j : ℕ) → i < C.row_count → j < C.row_count → covers C l op r (C.row i) ≡ true → covers C l op r (C.row j) ≡ true → i ≡ j
  -- and of those written, of which there are `word t 1`
  pub one_entry : (m n : ℕ) → m < word t 1 → n < word t 1 → row_entry t m 0 ≡ row_entry t n 0 → row_entry t m 1 ≡ row_entry t n 1 → row_entry t m 2 ≡ row_entry t n 2 → m ≡ n
  -- each row written is in force, so it fits too
  pub entries : (m : ℕ) → m < word t 1 → (op : ProductOp) × (row_entry t m 1 ≡ op_word op) × (c.rows (row_entry t m 0) op (row_entry t m 2) ≡ Some (row_entry t m 3))
  -- roles: "A kind with a difference is a point; a kind named as one is a difference; others are linear."
  pub roles : (k : ℕ) → k < C.kind_count → word t (kind_place k + 26) ≡ role C k

-- "25 never comes from a lack of kinds": where row i of C is refused with 25, its result is there and does not carry what was derived
pub record FitsNot (C : Catalog) (i : ℕ) (x : Graded) : Type 0 where
  pub left : ℕ
  pub right : ℕ
  pub result : ℕ
  pub finds_left : find C (C.row i).left ≡ Some left
  pub finds_right : find C (C.row i).right ≡ Some right
  pub finds_result : find C (C.row i).result ≡ Some result
  pub derived : derive (kinds_of C) left (C.row i).op right ≡ given x
  pub other : carries (kinds_of C) x result ≡ false
