-- `image::search::first_filled` meets its contract: none at a glance, or a scan.
use mathlib.Core.Path.{◌≡◌}
use Rattle.std.specs.declared.option.Option.TheVariants.{None}
use Rattle.laws.specs.Ranges.{first_from}
use Rattle.rules.specs.Layout.{filled}
use Rattle.image.proofs.search.first_filled.Given as goal

abbrev pub invariant-loop-i : goal.invariant-loop-i
invariant-loop-i l = (first_from (filled l.s) l.p l.i ≡ None)
