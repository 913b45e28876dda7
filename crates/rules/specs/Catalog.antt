-- What an image declares, record by record, and the kinds and rows that its ids come to.
use Rattle.std.specs.Prelude.{ℕ, ◌+◌, ◌*◌, ◌/◌, ◌%◌, Bool, true, false, cond, ◌&&◌, ◌||◌, List, [], ◌∷◌, eqb}
use Rattle.std.specs.declared.option.Option.{Option}
use Rattle.std.specs.declared.option.Option.TheVariants.{None, Some}
use Rattle.laws.specs.Options.{is_some, found}
use Rattle.laws.specs.Ranges.{first, tab, below}
use Rattle.dimension.specs.Integer as I
use Rattle.dimension.specs.Fraction as F
use Rattle.dimension.specs.Dimension as D
use Rattle.dimension.specs.declared.rational.Rational.{Rational}
use Rattle.dimension.specs.declared.dimensions.Dimensions.{Dimensions}
use Rattle.dimension.specs.declared.grade.ProductOp.{ProductOp}
use Rattle.rules.specs.Kinds.{Kinds, Rows, op_of, same_op}
use Rattle.rules.specs.Bytes.{byte, le2}
use Rattle.rules.specs.Layout.{kind_count, row_count, kind_blocks}

-- ---- ids
abbrev pub Id : Type 0
Id = List ℕ

-- "All zero means undeclared"
unfoldable pub blank : Id → Bool
blank [] = true
blank (x ∷ a) = eqb x 0 && blank a

-- the same id
unfoldable pub same : Id → Id → Bool
same [] [] = true
same [] (y ∷ b) = false
same (x ∷ a) [] = false
same (x ∷ a) (y ∷ b) = eqb x y && same a b

-- ---- records
-- "Kind, 148 bytes": what its record declares
abbrev pub Kind : Type 0
Kind = record { id : Id; difference : Id; rate_of : Id; dims : Option Dimensions; grade : ℕ }

-- "Row, 100 bytes": likewise
abbrev pub Row : Type 0
Row = record { left : Id; right : Id; result : Id; op : ProductOp; commutative : Bool }

-- all that an image declares
abbrev pub Catalog : Type 0
Catalog = record { kind_count : ℕ; kind : ℕ → Kind; dimensionless : Id; time : Id; row_count : ℕ; row : ℕ → Row }

-- ---- read from the image
unfoldable pub id_at : List ℕ → ℕ → Id
id_at s p = tab (λ i. byte s (p + i)) 32

-- an exponent, zero where there is none
abbrev pub or_zero : Option Rational → Rational
or_zero r = elim r [ Some e ↦ e | None ↦ F.zero ]

-- "signed 16-bit numerator, 16-bit denominator"; "A fraction is reduced on reading (2/4 is 1/2); zero means the base is absent."
-- What is no fraction (4 refuses it first) reads as absent too.
unfoldable pub exponent_at : List ℕ → ℕ → Rational
exponent_at s p = or_zero (F.answer (I.twos 32768 (le2 s p)) (le2 s (p + 2)))

-- "flag at 144 (1 dimensions given; 0 unresolved, ..)"
unfoldable pub dims_at : List ℕ → ℕ → Option Dimensions
dims_at s p = cond (eqb (byte s (p + 144)) 1) (Some (D.dimensions (tab (λ b. exponent_at s (p + 96 + 4 * b)) 12))) None

-- "id at 0, difference id at 32, rate-of id at 64, .., grade 0 to 3 at 145"
unfoldable pub kind_from : List ℕ → ℕ → Kind
kind_from s p = record { id = id_at s p; difference = id_at s (p + 32); rate_of = id_at s (p + 64); dims = dims_at s p; grade = byte s (p + 145) }

-- "left, right, result ids at 0, 32, 64; operation at 96 ..; commutative 0 or 1 at 97"
unfoldable pub row_from : List ℕ → ℕ → Row
row_from s p = record { left = id_at s p; right = id_at s (p + 32); result = id_at s (p + 64); op = op_of (byte s (p + 96)); commutative = eqb (byte s (p + 97)) 1 }

-- the record of kind k and of row r: "three records each", "five each", from byte 4 of their blocks
abbrev pub kind_at : ℕ → ℕ
kind_at k = 512 * (1 + k / 3) + 4 + k % 3 * 148

abbrev pub row_at : List ℕ → ℕ → ℕ
row_at s r = 512 * (1 + kind_blocks s + r / 5) + 4 + r % 5 * 100

-- past the count nothing is declared
abbrev pub absent_kind : Kind
absent_kind = record { id = []; difference = []; rate_of = []; dims = None; grade = 0 }

-- "dimensionless id at 12; time id at 44"
unfoldable pub catalog_in : List ℕ → Catalog
catalog_in s = record {
  kind_count = kind_count s;
  kind = below (kind_count s) absent_kind (λ k. kind_from s (kind_at k));
  dimensionless = id_at s 12;
  time = id_at s 44;
  row_count = row_count s;
  row = λ r. row_from s (row_at s r);
}

-- ---- what the ids name
-- kind k is what was found
abbrev pub meant : ℕ → Option ℕ → Bool
meant k o = found o (λ j. eqb j k) false

module _ (C : Catalog) where
  -- the first kind of this id
  unfoldable pub find : Id → Option ℕ
  find id = first (λ k. same (C.kind k).id id) C.kind_count

  -- what a declared id names
  unfoldable pub link : Id → Option ℕ
  link id = cond (blank id) None (find id)

  -- what a kind's difference id and rate-of id name
  abbrev pub difference_of : ℕ → Option ℕ
  difference_of k = link (C.kind k).difference

  abbrev pub target_of : ℕ → Option ℕ
  target_of k = link (C.kind k).rate_of

  -- the first of n kinds that is declared a rate of t
  unfoldable pub rate_among : ℕ → ℕ → Option ℕ
  rate_among n t = first (λ k. meant t (target_of k)) n

  -- "a kind named as one is a difference"
  unfoldable pub is_difference : ℕ → Bool
  is_difference k = is_some (first (λ j. meant k (difference_of j)) C.kind_count)

  -- "A kind with a difference is a point; a kind named as one is a difference; others are linear." 0 linear, 1 point, 2 difference
  unfoldable pub role : ℕ → ℕ
  role k = cond (is_some (difference_of k)) 1 (cond (is_difference k) 2 0)

  -- the compiled kinds
  unfoldable pub kinds_of : Kinds
  kinds_of = record {
    count = C.kind_count;
    dims = λ k. (C.kind k).dims;
    grade = λ k. (C.kind k).grade;
    difference = difference_of;
    rate_of = target_of;
    rate = below C.kind_count None (rate_among C.kind_count);
    dimensionless = link C.dimensionless;
    time = link C.time;
  }

  -- the row's ids name l and r
  unfoldable pub names : ℕ → ℕ → Row → Bool
  names l r x = meant l (find x.left) && meant r (find x.right)

  -- the row is one for left, operation and right: "a commutative row is also one for the turned pair"
  unfoldable pub covers : ℕ → ProductOp → ℕ → Row → Bool
  covers l op r x = same_op x.op op && (names l r x || (x.commutative && names r l x))

  -- the first of n rows for left, operation and right
  unfoldable pub row_among : ℕ → ℕ → ProductOp → ℕ → Option ℕ
  row_among n l op r = first (λ i. covers l op r (C.row i)) n

  -- the compiled rows: the result that the row for left, operation and right names
  unfoldable pub rows_of : Rows
  rows_of l op r = found (row_among C.row_count l op r) (λ i. find (C.row i).result) None
