-- `stored::answers::are_twins` meets its contract. The loop's invariant: the first i are the stored ones.
use mathlib.Core.Path.{◌≡◌}
use mathlib.Core.Bool.{true}
use Rattle.laws.specs.Ranges.{all}
use Rattle.stored.specs.Answers.{twin_as}
use Rattle.stored.proofs.answers.are_twins.Given as goal

abbrev pub invariant-loop-i : goal.invariant-loop-i
invariant-loop-i l = all (twin_as l.s l.twins) l.i ≡ true
