-- `rows::records` meets its contract: record by record.
use mathlib.Core.Path.{◌≡◌}
use lib.ListN.{length, take}
use Rattle.laws.specs.Ranges.{tab}
use Rattle.rows.specs.Records.{record_at}
use Rattle.rows.proofs.records.Given as goal

abbrev pub invariant-loop-i : goal.invariant-loop-i
invariant-loop-i l = (length l.rows ≡ 400) × (take l.i l.rows ≡ tab (record_at l.words) l.i)
