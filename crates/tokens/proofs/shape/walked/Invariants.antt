-- `tokens::shape::walked` meets its contract.
use Prim.Native.Nat.{◌/◌}
use mathlib.Core.Path.{◌≡◌}
use mathlib.Core.List.{[]}
use lib.ListN.{length}
use Rattle.rules.specs.Formula.{walk, shape}
use Rattle.rules.specs.Token.{tokens_in}
use Rattle.tokens.specs.Shown.{units, remaining}
use Rattle.tokens.proofs.shape.walked.Given as goal

abbrev pub invariant-loop-k : goal.invariant-loop-k
invariant-loop-k l = (l.n ≡ length l.bytes / 12) × (walk shape (remaining l.bytes l.k) l.k (units l.depth) ≡ walk shape (tokens_in l.bytes) 0 [])
