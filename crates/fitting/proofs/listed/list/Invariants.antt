-- `fitting::listed::list` meets its contract: written one after another.
use Prim.Native.Nat.{◌≤◌}
use mathlib.Core.Path.{◌≡◌}
use lib.ListN.{length}
use Rattle.laws.specs.Ranges.{picked, overlay}
use Rattle.rules.specs.Kinds as K
use Rattle.rules.specs.Table.{kinds_of, dims_from}
use Rattle.fitting.specs.Shown.{at}
use Rattle.fitting.proofs.listed.list.Given as goal

abbrev pub invariant-loop-k : goal.invariant-loop-k
invariant-loop-k l = (l.count ≤ l.k) × (length l.twins ≡ length l.initial.twins) × (l.count ≡ length (picked (K.fits (kinds_of l.t) (at (dims_from l.w 0) l.g)) l.k)) × (l.twins ≡ overlay (picked (K.fits (kinds_of l.t) (at (dims_from l.w 0) l.g)) l.k) l.initial.twins)
