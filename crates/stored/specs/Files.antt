-- What a stored file begins with (docs/VECTORS.md), and the buffer that it is read into.
use Rattle.std.specs.Prelude.{ℕ, Bool, ◌&&◌, List, leb, eqb, length, replicate}
use Rattle.rules.specs.Bytes.{le4}

-- sixteen bytes, of them the four that mark a stored file and the number of its group
unfoldable pub is_group : List ℕ → ℕ → Bool
is_group s group = leb 16 (length s) && eqb (le4 s 0) 826360651 && eqb (le4 s 4) group

-- zeros; the number isn't looked at outside, so that no proof looks at each
unfoldable pub zeros : ℕ → List ℕ
zeros n = replicate n 0
