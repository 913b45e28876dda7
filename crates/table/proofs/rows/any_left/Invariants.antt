-- `table::rows::any_left` meets its contract: a loop that gathers.
use mathlib.Core.Path.{◌≡◌}
use Rattle.laws.specs.Options.{is_some}
use Rattle.laws.specs.Ranges.{first_from}
use Rattle.table.specs.Shown.{left_is}
use Rattle.table.proofs.rows.any_left.Given as goal

abbrev pub invariant-loop-i : goal.invariant-loop-i
invariant-loop-i l = (l.any ≡ is_some (first_from (left_is l.s l.l) l.from l.i))
