-- The words of a list of row records.
use Rattle.std.specs.Prelude.{ℕ, List, [], ◌∷◌}
use Rattle.rows.specs.declared.Row.{Row}

-- four words a row, in order
unfoldable pub flat : List Row → List ℕ
flat [] = []
flat (x ∷ xs) = x.left ∷ x.op ∷ x.right ∷ x.result ∷ flat xs

-- the row of zeros, for what stands past the end
abbrev pub blank : Row
blank = record { left = 0; op = 0; right = 0; result = 0 }
