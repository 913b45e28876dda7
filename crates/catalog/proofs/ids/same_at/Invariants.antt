-- `catalog::ids::same_at` meets its contract: within the image at a glance, else byte by byte.
use mathlib.Core.Path.{◌≡◌}
use mathlib.Core.Bool.{true}
use Rattle.laws.specs.Ranges.{all}
use Rattle.catalog.specs.Shown.{bytes_alike}
use Rattle.catalog.proofs.ids.same_at.Given as goal

abbrev pub invariant-loop-i : goal.invariant-loop-i
invariant-loop-i l = (all (bytes_alike l.image l.p l.image l.q) l.i ≡ true)
