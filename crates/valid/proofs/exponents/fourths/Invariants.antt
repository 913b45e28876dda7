-- `valid::exponents::fourths` meets its contract: word by word.
use mathlib.Core.Path.{◌≡◌}
use Rattle.valid.specs.Shown.{ors, raised}
use Rattle.valid.proofs.exponents.fourths.Given as goal

abbrev pub invariant-loop-j : goal.invariant-loop-j
invariant-loop-j l = l.bits ≡ ors (raised l.t l.m l.p) l.j
