-- `valid::marks::all_marks` meets its contract: one after the other.
use Rattle.std.proofs.Common.{◌≡◌, true}
use Rattle.laws.specs.Ranges.{all}
use Rattle.rules.specs.Table as T
use Rattle.valid.proofs.marks.all_marks.Given as goal

abbrev pub invariant-loop-k : goal.invariant-loop-k
invariant-loop-k l = all (λ k'. T.marks_fine l.t (T.kind_place k')) l.k ≡ true
