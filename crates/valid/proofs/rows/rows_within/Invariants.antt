-- `valid::rows::rows_within` meets its contract: a loop that gathers four tests.
use Rattle.std.proofs.Common.{◌≡◌, ◌+◌, ◌*◌, ltb}
use Rattle.laws.specs.Ranges.{all}
use Rattle.rules.specs.Table as T
use Rattle.valid.proofs.rows.rows_within.Given as goal

abbrev pub invariant-loop-i : goal.invariant-loop-i
invariant-loop-i l = (l.lefts ≡ all (λ j. ltb (T.word l.s (l.p + 4 * j)) l.n) l.i) × (l.ops ≡ all (λ j. ltb (T.word l.s (l.p + 4 * j + 1)) 4) l.i)
    × (l.rights ≡ all (λ j. ltb (T.word l.s (l.p + 4 * j + 2)) l.n) l.i) × (l.results ≡ all (λ j. ltb (T.word l.s (l.p + 4 * j + 3)) l.n) l.i)
