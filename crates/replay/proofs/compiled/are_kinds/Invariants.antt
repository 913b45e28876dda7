-- `replay::compiled::are_kinds` meets its contract.
use Prim.Native.Nat.{◌≤◌, ◌+◌, ◌*◌}
use mathlib.Core.Path.{◌≡◌}
use mathlib.Core.Bool.{true}
use Rattle.laws.specs.Ranges.{all}
use Rattle.replay.specs.Compiled.{kind_at, kind_here}
use Rattle.replay.proofs.compiled.are_kinds.Given as goal

abbrev pub invariant-loop-k : goal.invariant-loop-k
invariant-loop-k l = (l.at ≤ 8 + 1540 * l.k) × (l.at ≡ kind_at l.s l.k) × (all (kind_here l.s l.t) l.k ≡ true)
