-- `image::layout::any_wrong` meets its contract: a loop that gathers.
use mathlib.Core.Path.{◌≡◌}
use Rattle.laws.specs.Options.{is_some}
use Rattle.laws.specs.Ranges.{first_from}
use Rattle.rules.specs.Layout.{id_wrong}
use Rattle.image.proofs.layout.any_wrong.Given as goal

abbrev pub invariant-loop-i : goal.invariant-loop-i
invariant-loop-i l = (l.any ≡ is_some (first_from (id_wrong l.s l.p) l.p l.i))
