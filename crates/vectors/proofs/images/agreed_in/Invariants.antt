-- `vectors::images::agreed_in` meets its contract. The loop's invariant: no more agree than were looked at.
use Prim.Native.Nat.{◌≤◌}
use Rattle.vectors.proofs.images.agreed_in.Given as goal

abbrev pub invariant-loop-i : goal.invariant-loop-i
invariant-loop-i l = l.count ≤ l.i
