-- `vectors::images::sum` meets its contract. The loop's invariant: no byte so far was added more than 508 times.
use Prim.Native.Nat.{◌≤◌, ◌*◌}
use Rattle.vectors.proofs.images.sum.Given as goal

abbrev pub invariant-loop-i : goal.invariant-loop-i
invariant-loop-i l = l.total ≤ 129540 * l.i
