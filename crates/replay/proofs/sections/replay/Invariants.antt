-- `replay::sections::replay` meets its contract. The loop's invariant: the first requests are walked and counted.
use Prim.Native.Nat.{◌≤◌, ◌*◌}
use mathlib.Core.Path.{◌≡◌}
use lib.ListN.{length}
use Rattle.laws.specs.Ranges.{picked}
use Rattle.replay.specs.Requests.{place_of, agreed_at}
use Rattle.replay.proofs.sections.replay.Given as goal

abbrev pub invariant-loop : goal.invariant-loop
invariant-loop l = (l.count ≤ l.counter) × (l.at ≤ 1179642 * l.counter) × (l.at ≡ place_of l.requests l.s l.counter) × (l.count ≡ length (picked (agreed_at l.requests l.s l.table) l.counter))
