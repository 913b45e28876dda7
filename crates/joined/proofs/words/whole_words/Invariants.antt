-- `joined::words::whole_words` meets its contract: pair by pair.
use mathlib.Core.Path.{◌≡◌}
use lib.ListN.{length, take}
use Rattle.laws.specs.Ranges.{tab}
use Rattle.rules.specs.Table as T
use Rattle.joined.proofs.Sums.{joined_at}
use Rattle.joined.proofs.words.whole_words.Given as goal

abbrev pub invariant-loop-i : goal.invariant-loop-i
invariant-loop-i l = (length l.w ≡ 24) × (tab (T.exponent_from l.w 0) l.i ≡ take l.i (tab (joined_at l.a.words.now l.b.words.now l.div) 12))
