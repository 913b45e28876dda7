-- `formula::walk::walked` meets its contract.
use Prim.Native.Nat.{◌/◌, ◌≤◌}
use mathlib.Core.Path.{◌≡◌}
use mathlib.Core.List.{[]}
use lib.ListN.{length}
use Rattle.rules.specs.Formula as rule
use Rattle.rules.specs.Table.{kinds_of, rows_of}
use Rattle.rules.specs.Token.{tokens_in}
use Rattle.tokens.specs.Shown.{remaining}
use Rattle.formula.specs.Shown.{stack_of}
use Rattle.formula.proofs.walk.walked.Given as goal

abbrev pub invariant-loop-place : goal.invariant-loop-place
invariant-loop-place l = (l.n ≡ length l.bytes / 12) × (l.depth ≤ 32) × (length l.stack ≡ 32)
    × (rule.walk (rule.terms (kinds_of l.t) (rows_of l.rows)) (remaining l.bytes l.place-counter) l.place-counter (stack_of l.stack l.depth) ≡ rule.walk (rule.terms (kinds_of l.t) (rows_of l.rows)) (tokens_in l.bytes) 0 [])
