-- None of the rows before this one is for the pair.
use Rattle.std.proofs.Common.{◌≡◌}
use Rattle.std.specs.declared.option.Option.TheVariants.{None}
use Rattle.laws.specs.Ranges.{first}
use Rattle.rules.specs.Table.{is_row}
use Rattle.rows.specs.Flat.{flat}
use Rattle.rows.proofs.row_in.Given as goal

abbrev pub invariant-loop-row : goal.invariant-loop-row
invariant-loop-row l = first (is_row (flat l.rows) l.l l.op l.r) l.row-index ≡ None
