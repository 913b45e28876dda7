-- `catalog::ids::is_blank` meets its contract: a loop that gathers.
use mathlib.Core.Path.{◌≡◌}
use Rattle.laws.specs.Ranges.{all}
use Rattle.catalog.specs.Shown.{byte_zero}
use Rattle.catalog.proofs.ids.is_blank.Given as goal

abbrev pub invariant-loop-i : goal.invariant-loop-i
invariant-loop-i l = (l.blank ≡ all (byte_zero l.id 0) l.i)
