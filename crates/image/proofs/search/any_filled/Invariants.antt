-- `image::search::any_filled` meets its contract: a loop that gathers.
use mathlib.Core.Path.{◌≡◌}
use Rattle.laws.specs.Options.{is_some}
use Rattle.laws.specs.Ranges.{first_from}
use Rattle.rules.specs.Layout.{filled}
use Rattle.image.proofs.search.any_filled.Given as goal

abbrev pub invariant-loop-i : goal.invariant-loop-i
invariant-loop-i l = (l.any ≡ is_some (first_from (filled l.s) l.p l.i))
