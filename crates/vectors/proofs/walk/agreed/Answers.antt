use Rattle.std.proofs.Common.{rules, of_calls}
use Rattle.vectors.proofs.walk.agreed.Goals as goal

pub loop-preserved : goal.loop-preserved
loop-preserved g c = (
  search of_calls,
  λ m h.
      let a = c.loop.invariant.1 m h in
      let b = h _ _ _ _ c.part.ensures _ c.in_ok-found.was in
      search (a, b, rules),
)
