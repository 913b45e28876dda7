-- `stored::packed::write` meets its contract. The loop's invariant: so much is written, and what the rest stands for is to come.
use Prim.Native.Nat.{◌≤◌, ◌-◌, ◌+◌, ◌*◌}
use mathlib.Core.Path.{◌≡◌}
use mathlib.Core.List.{◌++◌}
use lib.ListN.{length, take, drop, replicate}
use Rattle.laws.specs.Ranges.{overlay}
use Rattle.stored.specs.Packed.{unpacked}
use Rattle.stored.proofs.packed.write.Given as goal

abbrev pub invariant-loop-at : goal.invariant-loop-at
invariant-loop-at l = (l.at ≤ length l.initial.image) × (length l.image ≡ length l.initial.image) × (l.image ≡ overlay (take l.at (unpacked 0 l.s)) l.initial.image) × (drop l.at (unpacked 0 l.s) ≡ replicate l.zeros 0 ++ unpacked l.left (drop l.from l.s))

abbrev pub decreases-loop-at : goal.decreases-loop-at
decreases-loop-at l = 256 * (length l.s - l.from) + l.zeros
