-- `written::rows::rows_words` meets its contract: row by row.
use Prim.Native.Nat.{◌≤◌, ◌*◌}
use mathlib.Core.Path.{◌≡◌}
use lib.ListN.{length}
use Rattle.laws.specs.Ranges.{overlay}
use Rattle.written.specs.Shown.{flat, row_entries}
use Rattle.written.proofs.rows.rows_words.Given as goal

abbrev pub invariant-loop-i : goal.invariant-loop-i
invariant-loop-i l = (l.used ≤ 8 * l.i) × (length l.words ≡ 1600) × (l.used ≡ length (flat (row_entries l.image) l.i)) × (l.words ≡ overlay (flat (row_entries l.image) l.i) l.initial.words)
