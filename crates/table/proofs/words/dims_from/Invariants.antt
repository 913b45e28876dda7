-- `table::words::dims_from` meets its contract: exponent by exponent.
use mathlib.Core.Path.{◌≡◌}
use lib.ListN.{length, take}
use Rattle.laws.specs.Ranges.{tab}
use Rattle.rules.specs.Table as T
use Rattle.table.proofs.words.dims_from.Given as goal

abbrev pub invariant-loop-b : goal.invariant-loop-b
invariant-loop-b l = (length l.d.powers ≡ 12) × (take l.b l.d.powers ≡ tab (T.exponent_from l.t l.p) l.b)
