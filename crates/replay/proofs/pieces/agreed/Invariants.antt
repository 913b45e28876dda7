-- `replay::pieces::agreed` meets its contract.
use Prim.Native.Nat.{◌≤◌}
use Rattle.replay.proofs.pieces.agreed.Given as goal

abbrev pub invariant-loop : goal.invariant-loop
invariant-loop g l = l.count ≤ l.counter
