-- The words of dimensions, and what private functions of the crate compute.
use Rattle.std.specs.Prelude.{ℕ, ◌+◌, ◌*◌, ◌/◌, Bool, ◌&&◌, List, eqb}
use Rattle.std.specs.declared.option.Option.{Option}
use Rattle.std.specs.declared.option.Option.TheVariants.{None}
use Rattle.laws.specs.Ranges.{below, tab}
use Rattle.dimension.specs.Dimension as D
use Rattle.dimension.specs.declared.dimensions.Dimensions.{Dimensions}
use Rattle.rules.specs.Table.{word, kinds_in, kind_place, index_or, exponent_word}

-- the exponents of dimensions as words, two for each
unfoldable pub exponents_of : Dimensions → List ℕ
exponents_of d = tab (λ i. exponent_word (D.exponent d (i / 2)) i) 24

-- word f of kind k, or 0 past the count
unfoldable pub field : List ℕ → ℕ → ℕ → ℕ
field t k f = below (kinds_in t) 0 (λ k. word t (kind_place k + f)) k

-- the kind that word f of kind k names, or none past the count
unfoldable pub link : List ℕ → ℕ → ℕ → Option ℕ
link t k f = below (kinds_in t) None (λ k. index_or (word t (kind_place k + f))) k

-- row i of lent rows has left l
unfoldable pub left_is : List ℕ → ℕ → ℕ → Bool
left_is s l i = eqb (word s (4 * i)) l

-- row i of lent rows is for left l, the operation whose word is o, and right r
unfoldable pub row_for : List ℕ → ℕ → ℕ → ℕ → ℕ → Bool
row_for s l o r i = eqb (word s (4 * i)) l && eqb (word s (4 * i + 1)) o && eqb (word s (4 * i + 2)) r
