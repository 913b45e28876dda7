-- `table::rows::first_row` meets its contract: a scan.
use mathlib.Core.Path.{◌≡◌}
use Rattle.std.specs.declared.option.Option.TheVariants.{None}
use Rattle.laws.specs.Ranges.{first_from}
use Rattle.table.specs.Shown.{row_for}
use Rattle.table.proofs.rows.first_row.Given as goal

abbrev pub invariant-loop-i : goal.invariant-loop-i
invariant-loop-i l = first_from (row_for l.s l.l l.o l.r) l.from l.i ≡ None
