-- `written::kinds::kinds_by` meets its contract: kind by kind.
use Prim.Native.Nat.{◌*◌}
use mathlib.Core.Path.{◌≡◌}
use lib.ListN.{length}
use Rattle.laws.specs.Ranges.{overlay}
use Rattle.written.specs.Shown.{flat, kind_in}
use Rattle.written.proofs.kinds.kinds_by.Given as goal

abbrev pub invariant-loop-k : goal.invariant-loop-k
invariant-loop-k l = (length l.t ≡ length l.initial.t) × (32 * l.k ≡ length (flat (kind_in l.image l.links) l.k)) × (l.t ≡ overlay (flat (kind_in l.image l.links) l.k) l.initial.t)
