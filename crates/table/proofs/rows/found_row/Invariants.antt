-- `table::rows::found_row` meets its contract: sixteen rows at a time.
use Prim.Native.Nat.{◌*◌}
use mathlib.Core.Path.{◌≡◌}
use Rattle.std.specs.declared.option.Option.TheVariants.{None}
use Rattle.laws.specs.Ranges.{first}
use Rattle.table.specs.Shown.{row_for}
use Rattle.table.proofs.rows.found_row.Given as goal

abbrev pub invariant-loop-block : goal.invariant-loop-block
invariant-loop-block l = first (row_for l.s l.l l.o l.r) (16 * l.block) ≡ None
