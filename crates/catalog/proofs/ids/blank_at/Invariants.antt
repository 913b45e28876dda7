-- `catalog::ids::blank_at` meets its contract: within the image at a glance, else byte by byte.
use mathlib.Core.Path.{◌≡◌}
use mathlib.Core.Bool.{true}
use Rattle.laws.specs.Ranges.{all}
use Rattle.catalog.specs.Shown.{byte_zero}
use Rattle.catalog.proofs.ids.blank_at.Given as goal

abbrev pub invariant-loop-i : goal.invariant-loop-i
invariant-loop-i l = (all (byte_zero l.image l.p) l.i ≡ true)
