-- Demand 3's premises about two catalogs, as their images declare them.
use Rattle.std.specs.Prelude.{ℕ, ◌<◌, ◌≡◌, true, List}
use Rattle.dimension.specs.declared.grade.ProductOp.{ProductOp}
use Rattle.rules.specs.Bytes.{byte}
use Rattle.rules.specs.Catalog.{Catalog, find, covers}

-- "with the same list of kinds, dimensionless kind and time kind": by value and in order, so 2/4 is 1/2
pub record SameKinds (S L : Catalog) : Type 0 where
  pub count : S.kind_count ≡ L.kind_count
  pub kind : (k : ℕ) → k < S.kind_count → S.kind k ≡ L.kind k
  pub dimensionless : S.dimensionless ≡ L.dimensionless
  pub time : S.time ≡ L.time

-- "the larger has every row of the smaller": for each row of the smaller, and each left, operation and right that it is one for, the larger has a
-- row for these with the same result. "A commutative row is also one for the turned pair", so two rows may stand for one
abbrev pub MoreRows : Catalog → Catalog → Type 0
MoreRows S L = (i : ℕ) → i < S.row_count → (l : ℕ) (op : ProductOp) (r : ℕ) → covers S l op r (S.row i) ≡ true
    → (j : ℕ) × (j < L.row_count) × (covers L l op r (L.row j) ≡ true) × (find L (L.row j).result ≡ find S (S.row i).result)

-- the same rows, in any order, among others: this is more than `MoreRows` asks
abbrev pub Repeats : Catalog → Catalog → Type 0
Repeats S L = (i : ℕ) → i < S.row_count → (j : ℕ) × (j < L.row_count) × (L.row j ≡ S.row i)

-- a list of bytes
abbrev pub Bytes : List ℕ → Type 0
Bytes s = (i : ℕ) → byte s i < 256
