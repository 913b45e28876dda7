-- `fitting::compared::pivot` meets its contract: a scan.
use mathlib.Core.Path.{◌≡◌}
use Rattle.std.specs.declared.option.Option.TheVariants.{None}
use Rattle.laws.specs.Ranges.{first}
use Rattle.fitting.specs.Shown.{is_there}
use Rattle.fitting.proofs.compared.pivot.Given as goal

abbrev pub invariant-loop-b : goal.invariant-loop-b
invariant-loop-b l = first (is_there l.w) l.b ≡ None
