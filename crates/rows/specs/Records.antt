-- The first 400 rows of a list of words, as records.
use Rattle.std.specs.Prelude.{ℕ, ◌+◌, ◌*◌, ◌/◌, cond, List, ltb, length}
use Rattle.laws.specs.Ranges.{tab}
use Rattle.rules.specs.Table.{word}
use Rattle.rows.specs.declared.Row.{Row}

-- a row that is for no pair: no kind has this index
abbrev pub idle : Row
idle = record { left = 65536; op = 0; right = 0; result = 0 }

-- row i of the words, idle past their end
unfoldable pub record_at : List ℕ → ℕ → Row
record_at s i = cond (ltb i (length s / 4)) (record { left = word s (4 * i); op = word s (4 * i + 1); right = word s (4 * i + 2); result = word s (4 * i + 3) }) idle

unfoldable pub records : List ℕ → List Row
records s = tab (record_at s) 400
