-- `catalog::ids::is_same` meets its contract: a loop that gathers.
use mathlib.Core.Path.{◌≡◌}
use Rattle.laws.specs.Ranges.{all}
use Rattle.catalog.specs.Shown.{bytes_alike}
use Rattle.catalog.proofs.ids.is_same.Given as goal

abbrev pub invariant-loop-i : goal.invariant-loop-i
invariant-loop-i l = (l.same ≡ all (bytes_alike l.a 0 l.b 0) l.i)
