use Rattle.std.proofs.Common.{arith}
use Rattle.laws.proofs.All.{every_end}
use Rattle.valid.proofs.Ors.{ors_none, ors_next}
use Rattle.valid.proofs.Wholly.{wholly}
use Rattle.valid.proofs.exponents.all_whole.Goals as goal

pub loop-k-init : goal.loop-k-init
loop-k-init c = (ors_none _, ors_none _, ors_none _, ors_none _)

pub loop-k-preserved : goal.loop-k-preserved
loop-k-preserved c =
    let l = c.loop-k in
    (ors_next _ l.k l.invariant.0 c.fourths-a.ensures, ors_next _ l.k l.invariant.1 c.fourths-b.ensures, ors_next _ l.k l.invariant.2 c.fourths-c.ensures, ors_next _ l.k l.invariant.3 c.fourths-d.ensures)

pub returns : goal.returns
returns c =
    let l = c.loop-k in
    every_end _ l.k _ (wholly _ (λ i. omega (arith, c.type_inv.t i)) l.k l.invariant.0 l.invariant.1 l.invariant.2 l.invariant.3) (omega arith) (omega arith)
