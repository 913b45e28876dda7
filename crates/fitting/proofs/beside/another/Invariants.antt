-- `fitting::beside::another` meets its contract: a scan.
use mathlib.Core.Path.{◌≡◌}
use Rattle.std.specs.declared.option.Option.TheVariants.{None}
use Rattle.laws.specs.Ranges.{first}
use Rattle.rules.specs.Table.{kinds_of, dims_from}
use Rattle.fitting.specs.Shown.{at, fits_beside}
use Rattle.fitting.proofs.beside.another.Given as goal

abbrev pub invariant-loop-j : goal.invariant-loop-j
invariant-loop-j l = first (fits_beside (kinds_of l.t) (at (dims_from l.w 0) l.g) l.k) l.j ≡ None
