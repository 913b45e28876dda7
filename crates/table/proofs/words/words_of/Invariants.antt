-- `table::words::words_of` meets its contract: pair by pair.
use Prim.Native.Nat.{◌*◌}
use mathlib.Core.Path.{◌≡◌}
use lib.ListN.{length, take}
use Rattle.laws.specs.Ranges.{tab}
use Rattle.rules.specs.Table as T
use Rattle.table.proofs.ExponentsInWords.{word_of}
use Rattle.table.proofs.words.words_of.Given as goal

abbrev pub invariant-loop-b : goal.invariant-loop-b
invariant-loop-b l = (length l.w ≡ 24) × (tab (T.exponent_from l.w 0) l.b ≡ take l.b l.d.powers) × (take (2 * l.b) l.w ≡ tab (word_of l.d) (2 * l.b))
