-- `joined::whole::all_whole` meets its contract: a loop that gathers.
use mathlib.Core.Path.{◌≡◌}
use Rattle.laws.specs.Ranges.{all}
use Rattle.joined.specs.Shown.{whole_at}
use Rattle.joined.proofs.whole.all_whole.Given as goal

abbrev pub invariant-loop-b : goal.invariant-loop-b
invariant-loop-b l = (l.whole ≡ all (whole_at l.words 0) l.b)
