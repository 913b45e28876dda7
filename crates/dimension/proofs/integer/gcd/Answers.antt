use mathlib.Core.Path.{sym, ◌∙◌, ap}
use native.Mathlib.Omega.{arith}
use Rattle.dimension.specs.Gcd as G
use Rattle.dimension.proofs.Euclid.{gcd_zero, gcd_step}
use Rattle.dimension.proofs.integer.gcd.Goals as goal

pub loop-y-preserved : goal.loop-y-preserved
loop-y-preserved c = sym (gcd_step c.loop-y.x c.loop-y.y (omega arith)) ∙ c.loop-y.invariant

pub returns : goal.returns
returns c = sym (gcd_zero c.loop-y.x) ∙ ap (G.gcd c.loop-y.x) (sym c.loop-y-test.false) ∙ c.loop-y.invariant
