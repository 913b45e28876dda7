-- `compile::compiler::copy` meets its contract: word by word.
use mathlib.Core.Path.{◌≡◌}
use lib.ListN.{length, take}
use Rattle.laws.specs.Ranges.{overlay}
use Rattle.compile.proofs.compiler.copy.Given as goal

abbrev pub invariant-loop-i : goal.invariant-loop-i
invariant-loop-i l = (length l.table ≡ length l.initial.table) × (l.table ≡ overlay (take l.i l.words) l.initial.table)
