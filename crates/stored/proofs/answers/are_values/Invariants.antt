-- `stored::answers::are_values` meets its contract. The loop's invariant: the first i are the stored ones.
use mathlib.Core.Path.{◌≡◌}
use mathlib.Core.Bool.{true}
use Rattle.laws.specs.Ranges.{all}
use Rattle.stored.specs.Answers.{value_as}
use Rattle.stored.proofs.answers.are_values.Given as goal

abbrev pub invariant-loop-i : goal.invariant-loop-i
invariant-loop-i l = all (value_as l.s l.at l.said) l.i ≡ true
