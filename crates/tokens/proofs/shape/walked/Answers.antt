use mathlib.Core.Path.{◌≡◌}
use native.Mathlib.Omega.{arith}
use borrow.Author.Rules.{rules}
use Rattle.rules.specs.Formula.{shape}
use Rattle.tokens.specs.Shown.{units}
use Rattle.tokens.proofs.Turns.{turns, start, finish}
use Rattle.tokens.proofs.Depths.{depths, shape_fine, shape_many}
use Rattle.tokens.proofs.shape.walked.Goals as goal

pub loop-k-init : goal.loop-k-init
unfolding units
loop-k-init c = (c.token_count-n.ensures, start shape _)

pub returns-in-None : goal.returns-in-None
returns-in-None c = search (turns, depths, rules) depth 9

pub loop-k-preserved : goal.loop-k-preserved
loop-k-preserved c = search (turns, depths, rules) depth 9

pub returns-then-depth-eq1 : goal.returns-then-depth-eq1
returns-then-depth-eq1 c =
    let l = c.loop-k in
    shape_fine _ _ _ (finish shape _ _ _ l.invariant.1 l.invariant.0 c.loop-k-test.false) c.if-depth-eq1.true

pub returns : goal.returns
returns c =
    let l = c.loop-k in
    let e : c.token_count-n.result ≡ l.k = omega arith in
    rw e (shape_many _ _ _ (finish shape _ _ _ l.invariant.1 l.invariant.0 c.loop-k-test.false) c.if-depth-eq1.false)
