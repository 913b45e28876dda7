-- `catalog::keys::key_at` meets its contract: within the image at a glance, else a loop that adds up.
use Prim.Native.Nat.{◌≤◌, ◌*◌}
use mathlib.Core.Path.{◌≡◌}
use Rattle.laws.specs.Ranges.{sum}
use Rattle.catalog.specs.Keys.{key_part}
use Rattle.catalog.proofs.keys.key_at.Given as goal

abbrev pub invariant-loop-i : goal.invariant-loop-i
invariant-loop-i l = (l.key ≤ 1048560 * l.i) × (l.key ≡ sum (key_part l.image l.p) l.i)
