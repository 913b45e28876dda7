-- `fitting::sought::twins_from` meets its contract: from one that fits to the next.
use Prim.Native.Nat.{◌+◌, ◌-◌, ◌≤◌, ◌<◌}
use mathlib.Core.Path.{◌≡◌}
use lib.ListN.{length}
use Rattle.laws.specs.Ranges.{picked}
use Rattle.rules.specs.Table.{kinds_of, dims_from}
use Rattle.fitting.specs.Shown.{at, fits_past}
use Rattle.fitting.proofs.sought.twins_from.Given as goal

abbrev pub invariant-loop-j : goal.invariant-loop-j
invariant-loop-j l = record {
  behind : l.k < l.from;
  few : l.count ≤ l.from + 1;
  counted : l.count ≡ 2 + length (picked (fits_past (kinds_of l.t) (at (dims_from l.w 0) l.g) l.k) l.from);
  at_first : l.n < l.from → l.from ≤ l.k + 1;
}

abbrev pub decreases-loop-j : goal.decreases-loop-j
decreases-loop-j l = l.n - l.from
