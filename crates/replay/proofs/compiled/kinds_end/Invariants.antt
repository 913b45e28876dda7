-- `replay::compiled::kinds_end` meets its contract.
use Prim.Native.Nat.{◌≤◌, ◌+◌, ◌*◌}
use mathlib.Core.Path.{◌≡◌}
use Rattle.replay.specs.Compiled.{kind_at}
use Rattle.replay.proofs.compiled.kinds_end.Given as goal

abbrev pub invariant-loop : goal.invariant-loop
invariant-loop l = (l.at ≤ 8 + 1540 * l.counter) × (l.at ≡ kind_at l.s l.counter)
