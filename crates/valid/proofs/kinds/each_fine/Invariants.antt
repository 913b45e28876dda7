-- `valid::kinds::each_fine` meets its contract: one after the other.
use Rattle.std.proofs.Common.{◌≡◌, true}
use Rattle.laws.specs.Ranges.{all}
use Rattle.rules.specs.Table as T
use Rattle.valid.proofs.kinds.each_fine.Given as goal

abbrev pub invariant-loop-k : goal.invariant-loop-k
invariant-loop-k l = all (T.kind_fine l.t) l.k ≡ true
