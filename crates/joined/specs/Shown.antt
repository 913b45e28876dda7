-- Whole exponents, and what private functions of the crate compute.
use Rattle.std.specs.Prelude.{ℕ, ◌+◌, ◌*◌, Bool, cond, ◌&&◌, ◌||◌, List, eqb, ltb, leb, ℤ, ◌+ℤ◌, ◌-ℤ◌, length}
use Rattle.laws.specs.Options.{found}
use Rattle.laws.specs.Ranges.{all}
use Rattle.dimension.specs.Dimension as D
use Rattle.dimension.specs.declared.dimensions.Dimensions.{Dimensions}
use Rattle.rules.specs.Kinds.{Kinds}
use Rattle.rules.specs.Table.{word}

-- exponent b of those from place p on is a whole number −32,768 to 32,767
unfoldable pub whole_at : List ℕ → ℕ → ℕ → Bool
whole_at t p b = eqb (word t (p + 2 * b + 1)) 1 && (ltb (word t (p + 2 * b)) 32768 || leb 4294934528 (word t (p + 2 * b)))

-- all twelve are there, and are
unfoldable pub whole_from : List ℕ → ℕ → Bool
whole_from t p = leb (p + 24) (length t) && all (whole_at t p) 12

-- the dimensions of a kind, dimension one where they are unresolved
abbrev pub dims_at : Kinds → ℕ → Dimensions
dims_at K k = found (K.dims k) (λ d. d) D.one

-- ---- a quotient or a product: of two numbers, and of dimensions
abbrev pub joined_by : Bool → ℤ → ℤ → ℤ
joined_by div x y = cond div (x -ℤ y) (x +ℤ y)

abbrev pub joined_dims : Bool → Dimensions → Dimensions → Dimensions
joined_dims div a b = cond div (D.or_one (D.quotient a b)) (D.or_one (D.product a b))
