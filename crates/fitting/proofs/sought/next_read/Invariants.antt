-- `fitting::sought::next_read` meets its contract: a scan.
use Prim.Native.Nat.{◌-◌}
use mathlib.Core.Path.{◌≡◌}
use Rattle.std.specs.declared.option.Option.TheVariants.{None}
use Rattle.laws.specs.Ranges.{first_from}
use Rattle.rules.specs.Kinds as K
use Rattle.rules.specs.Table.{kinds_of, dims_from}
use Rattle.fitting.specs.Shown.{at}
use Rattle.fitting.proofs.sought.next_read.Given as goal

abbrev pub invariant-loop-k : goal.invariant-loop-k
invariant-loop-k l = first_from (K.fits (kinds_of l.t) (at (dims_from l.w 0) l.g)) l.from (l.k - l.from) ≡ None
