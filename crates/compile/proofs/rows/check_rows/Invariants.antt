-- `compile::rows::check_rows` meets its contract: row by row, while none is refused.
use mathlib.Core.Path.{◌≡◌}
use lib.ListN.{length}
use Rattle.laws.specs.Out.{given}
use Rattle.rules.specs.Catalog.{catalog_in}
use Rattle.rules.specs.Compile.{row_rule, each_record}
use Rattle.rules.specs.Table.{entries_in}
use Rattle.compile.proofs.rows.check_rows.Given as goal

abbrev pub invariant-loop-i : goal.invariant-loop-i
invariant-loop-i l = (l.used ≡ length (entries_in (catalog_in l.c.image.now) l.i)) × (each_record (catalog_in l.c.image.now) (row_rule (catalog_in l.c.image.now)) l.i ≡ given tt)
