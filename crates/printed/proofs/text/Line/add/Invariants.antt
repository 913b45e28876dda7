-- `printed::text::Line::add` meets its contract. The loop's invariant: the first bytes are added.
use mathlib.Core.Path.{◌≡◌}
use lib.ListN.{take}
use Rattle.printed.specs.Shown.{added}
use Rattle.printed.proofs.text.Line.add.Given as goal

abbrev pub invariant-loop-x : goal.invariant-loop-x
invariant-loop-x l = l.self ≡ added l.initial.self (take l.x-index l.s)
