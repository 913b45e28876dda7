-- Each row before this one is in range.
use Rattle.std.proofs.Common.{◌≡◌, true}
use Rattle.laws.specs.Ranges.{all}
use Rattle.rows.proofs.Words.{test}
use Rattle.rows.proofs.are_rows_in.Given as goal

abbrev pub invariant-loop-row : goal.invariant-loop-row
invariant-loop-row l = all (test l.t l.rows) l.row-index ≡ true
