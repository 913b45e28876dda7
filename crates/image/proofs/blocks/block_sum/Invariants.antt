-- `image::blocks::block_sum` meets its contract: a loop that adds up.
use Prim.Native.Nat.{◌≤◌, ◌*◌}
use mathlib.Core.Path.{◌≡◌}
use Rattle.laws.specs.Ranges.{sum}
use Rattle.image.specs.Shown.{weighed}
use Rattle.image.proofs.blocks.block_sum.Given as goal

abbrev pub invariant-loop-i : goal.invariant-loop-i
invariant-loop-i l = (l.sum ≤ 129540 * l.i) × (l.sum ≡ sum (weighed l.image l.block) l.i)
