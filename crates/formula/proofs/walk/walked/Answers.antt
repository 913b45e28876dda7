use Prim.Native.Nat.{◌<◌}
use mathlib.Core.Path.{◌≡◌, refl, ap, ◌∙◌}
use lib.ListN.{length, length-set}
use native.Mathlib.Omega.{arith}
use Rattle.rules.specs.Formula as rule
use Rattle.rules.specs.Refusal as why
use Rattle.rules.specs.Call.{ending}
use Rattle.tokens.proofs.Turns.{start, turn, finish}
use Rattle.formula.specs.Shown.{termed, stack_of}
use Rattle.formula.proofs.Held.{held_put}
use Rattle.std.proofs.lemmas.Result.{err_from_is_err_and}
use Rattle.formula.proofs.Ends.{kept_ok, told_err, goes_on, goes_under, stops}
use borrow.Author.Rules.{rules}
use Rattle.formula.proofs.walk.walked.Goals as goal

pub loop-place-init : goal.loop-place-init
unfolding stack_of
loop-place-init c = (search rules, search rules, search rules, start (rule.terms _ _) _)

pub returns-in_err-put : goal.returns-in_err-put
returns-in_err-put c =
    let l = c.loop-place in
    let p = err_from_is_err_and c.from_residual.result c.from_residual.ensures.1 in
    rw (p.1, p.2) (told_err _ refl c.in_err-put.ensures.cases (λ e m f.
    stops _ _ _ _ _ _ c.step.ensures c.saturating_sub-in-loop-place.ensures c.saturating_sub.ensures c.token_at-token.ensures l.invariant.1 l.invariant.3 l.invariant.0 c.loop-place-test.true m (search (f, rules))))

pub loop-place-preserved : goal.loop-place-preserved
loop-place-preserved c =
    let l = c.loop-place in
    let k = kept_ok _ _ refl c.in_ok-put.ensures.cases c.in_ok-put.ensures.variant in
    let u = goes_under _ _ _ _ _ _ c.step.ensures c.saturating_sub-in-loop-place.ensures c.saturating_sub.ensures c.token_at-token.ensures l.invariant.1 k in
    let f : c.in_ok-put.put.at < length l.stack = omega (arith, u) in
    let o = goes_on _ _ _ _ _ _ c.step.ensures c.saturating_sub-in-loop-place.ensures c.saturating_sub.ensures c.token_at-token.ensures l.invariant.1 k in
    (l.invariant.0, omega (arith, u), length-set l.stack _ _ ∙ l.invariant.2, rw (held_put l.stack _ _ f) (turn _ _ _ _ l.invariant.3 l.invariant.0 c.loop-place-test.true o))

pub returns : goal.returns
returns c =
    let l = c.loop-place in
    let e : c.token_count-n.result ≡ l.place-counter = omega arith in
    c.last.ensures ∙ ap (λ (z : rule.Ended why.Refusal rule.Term). termed (ending z)) (rw e (finish (rule.terms _ _) _ _ _ l.invariant.3 l.invariant.0 c.loop-place-test.false))
