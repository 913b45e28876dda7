-- A kind by its record, and what a record's fields are read as. Assumes nothing.
use Prim.Native.Nat.{ℕ, ◌<◌}
use mathlib.Core.Path.{◌≡◌}
use mathlib.Core.List.{List}
use borrow.Author.Tests.{lt-ltb}
use Rattle.laws.specs.Ranges.{below}
use Rattle.rules.specs.Layout.{kind_count}
use Rattle.rules.specs.Catalog.{kind_from, kind_at, catalog_in}

-- a kind below the count is what its record declares
pub kind_in_law : (s : List ℕ) (k : ℕ) → k < kind_count s → (catalog_in s).kind k ≡ kind_from s (kind_at k)
unfolding catalog_in below
kind_in_law s k h = rw (lt-ltb k (kind_count s) h)
