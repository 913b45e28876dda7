-- `fitting::compared::same_from` meets its contract: pair by pair.
use mathlib.Core.Path.{◌≡◌}
use Rattle.laws.specs.Ranges.{tab}
use Rattle.rules.specs.Table as T
use Rattle.fitting.proofs.compared.same_from.Given as goal

abbrev pub invariant-loop-b : goal.invariant-loop-b
invariant-loop-b l = tab (T.exponent_from l.t l.p) l.b ≡ tab (T.exponent_from l.w 0) l.b
