-- `written::rows::rows_named` meets its contract: row by row.
use mathlib.Core.Path.{◌≡◌}
use lib.ListN.{length}
use Rattle.laws.specs.Ranges.{tab, overlay}
use Rattle.written.specs.Shown.{row_named}
use Rattle.written.proofs.rows.rows_named.Given as goal

abbrev pub invariant-loop-i : goal.invariant-loop-i
invariant-loop-i l = (length l.named ≡ length l.initial.named) × (l.named ≡ overlay (tab (row_named l.keyed.image.now) l.i) l.initial.named)
