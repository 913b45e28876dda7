-- `valid::rows::rows_fine` meets its contract: at once where all are there, else one after the other.
use Rattle.std.proofs.Common.{◌≡◌, ◌+◌, ◌*◌, true}
use Rattle.laws.specs.Ranges.{all}
use Rattle.rules.specs.Table as T
use Rattle.valid.proofs.rows.rows_fine.Given as goal

abbrev pub invariant-loop-i : goal.invariant-loop-i
invariant-loop-i l = all (λ i'. T.row_fine l.t l.s (l.p + 4 * i')) l.i ≡ true
