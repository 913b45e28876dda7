use Rattle.std.proofs.Common.{arith, length-set, ◌∙◌}
use Rattle.dimension.proofs.Places.{each_over, each_more, each_made}
use Rattle.dimension.proofs.dimensions.each.Goals as goal

pub returns-in_err-out : goal.returns-in_err-out
returns-in_err-out g c f h =
    c.from_residual.ensures
    ∙ each_over (λ x y r. goal.F-post g c.args.rule x y r) f c.args.a c.args.b (omega arith) (omega arith) h _ c.loop-i.i c.loop-i-test.true (rw c.in_err-out.was at c.rule.ensures)

pub loop-i-preserved : goal.loop-i-preserved
loop-i-preserved g c =
    let l = c.loop-i in (
      simp length-set l.invariant.0,
      λ f h. each_more (λ x y r. goal.F-post g c.args.rule x y r) f c.args.a c.args.b (omega arith) (omega arith) h _ l.out l.i _ c.loop-i-test.true l.invariant.0 (rw c.in_ok-out.was at c.rule.ensures) (l.invariant.1 f h),
    )

pub returns : goal.returns
returns g c f h =
    let l = c.loop-i in
    each_made (λ x y r. goal.F-post g c.args.rule x y r) f c.args.a c.args.b (omega arith) (omega arith) h l.out l.i (omega arith) l.invariant.0 (l.invariant.1 f h)
