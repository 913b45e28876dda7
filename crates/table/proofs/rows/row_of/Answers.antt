-- `table::rows::row_of` meets its contract.
use mathlib.Core.Path.{refl}
use Rattle.table.proofs.Scanned.{row_here}
use Rattle.table.proofs.rows.row_of.Goals as goal

pub returns : goal.returns
returns c = row_here _ _ _ _ c.op_word.ensures c.found_row.ensures c.in_ok-i.was refl c.index_at.ensures
