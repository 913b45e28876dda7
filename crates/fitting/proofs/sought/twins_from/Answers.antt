use mathlib.Core.Path.{refl}
use native.Mathlib.Omega.{arith}
use Rattle.table.proofs.Spans.{span_in}
use Rattle.fitting.proofs.Twins.{past_next}
use Rattle.fitting.proofs.sought.twins_from.Goals as goal

pub loop-j-preserved : goal.loop-j-preserved
loop-j-preserved c =
    let l = c.loop-j in
    let v = l.invariant in
    let j = span_in _ _ _ c.next_fit.ensures c.in-Some.is in record {
      behind = omega (arith, j.0);
      few = omega (arith, j.0);
      counted = past_next _ _ _ l.from _ _ v.counted v.behind c.next_fit.ensures c.in-Some.is refl;
      at_first = λ h. omega (arith, j.1);
    }
