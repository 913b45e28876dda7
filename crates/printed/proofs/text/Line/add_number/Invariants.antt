-- `printed::text::Line::add_number` meets its contract. The loop's invariant: the digits from i on are those of n after the ones of the rest, and there
-- is room for these.
use Prim.Native.Nat.{◌≤◌, ◌<◌}
use mathlib.Core.Path.{◌≡◌}
use mathlib.Core.List.{◌++◌}
use lib.ListN.{length, drop}
use Rattle.rules.specs.Report.{digits}
use Rattle.printed.proofs.Digits.{tens}
use Rattle.printed.proofs.text.Line.add_number.Given as goal

abbrev pub invariant-loop-rest : goal.invariant-loop-rest
invariant-loop-rest l = (1 ≤ l.i) × (l.i ≤ 20) × (length l.text ≡ 20) × (l.rest < tens l.i) × (digits l.n ≡ digits l.rest ++ drop l.i l.text)

abbrev pub decreases-loop-rest : goal.decreases-loop-rest
decreases-loop-rest l = l.rest
