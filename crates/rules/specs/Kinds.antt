-- A compiled catalog: what its kinds are, and which kind a row names. Both are functions of indexes; how they are laid out in words is told in Table.
use Rattle.std.specs.Prelude.{ℕ, Bool, false, not, ◌&&◌, List, [], ◌∷◌, eqb, get_or}
use Rattle.std.specs.declared.option.Option.{Option}
use Rattle.std.specs.declared.option.Option.TheVariants.{None}
use Rattle.laws.specs.Options.{is_some, found}
use Rattle.laws.specs.Ranges.{picked}
use Rattle.dimension.specs.Dimension as D
use Rattle.dimension.specs.declared.dimensions.Dimensions.{Dimensions}
use Rattle.dimension.specs.declared.grade.ProductOp.{ProductOp}
use Rattle.dimension.specs.declared.grade.ProductOp.TheVariants.{Mul, Div, Dot, Wedge}

-- the kinds of a compiled catalog, by index
pub record Kinds : Type 0 where
  pub count : ℕ
  -- none: unresolved
  pub dims : ℕ → Option Dimensions
  pub grade : ℕ → ℕ
  pub difference : ℕ → Option ℕ
  -- what the kind is the rate of, and which kind is its rate
  pub rate_of : ℕ → Option ℕ
  pub rate : ℕ → Option ℕ
  pub dimensionless : Option ℕ
  pub time : Option ℕ

-- "operation at 96 (0 Mul, 1 Div, 2 Dot, 3 Wedge)", in the image and in the table
abbrev pub op_word : ProductOp → ℕ
op_word op = elim op [ Mul ↦ 0 | Div ↦ 1 | Dot ↦ 2 | Wedge ↦ 3 ]

-- the image's operation; what is above 3, which 4 refuses first, reads as Wedge
unfoldable pub op_of : ℕ → ProductOp
op_of n = get_or (Mul ∷ Div ∷ Dot ∷ []) n Wedge

-- the same operation
abbrev pub same_op : ProductOp → ProductOp → Bool
same_op a b = eqb (op_word a) (op_word b)

-- the kind that the rows in force name for left, operation and right
abbrev pub Rows : Type 0
Rows = ℕ → ProductOp → ℕ → Option ℕ

-- "A kind with a difference is a point."
abbrev pub point : Kinds → ℕ → Bool
point K k = is_some (K.difference k)

-- "Duration is the time kind's difference."
abbrev pub duration : Kinds → Option ℕ
duration K = found K.time K.difference None

-- dimensions at a grade: what a product has, before any kind is chosen
abbrev pub Graded : Type 0
Graded = record { dims : Dimensions; grade : ℕ }

-- "a kind carries both if its record gives exactly these"
unfoldable pub carries : Kinds → Graded → ℕ → Bool
carries K x k = eqb (K.grade k) x.grade && found (K.dims k) (λ d. D.equal d x.dims) false

-- "one fitting non-point kind"
unfoldable pub fits : Kinds → Graded → ℕ → Bool
fits K x k = not (point K k) && carries K x k

-- the kinds that fit, ascending
abbrev pub candidates : Kinds → Graded → List ℕ
candidates K x = picked (fits K x) K.count
