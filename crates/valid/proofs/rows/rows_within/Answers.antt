use Rattle.std.proofs.Common.{refl, arith}
use Rattle.laws.proofs.All.{every_none, every_next, every_end}
use Rattle.rules.specs.Table as T
use Rattle.valid.proofs.Joint.{all_four}
use Rattle.valid.proofs.rows.rows_within.Goals as goal

pub loop-i-init : goal.loop-i-init
loop-i-init c = (every_none _, every_none _, every_none _, every_none _)

pub loop-i-preserved : goal.loop-i-preserved
loop-i-preserved c =
    let l = c.loop-i in
    (every_next _ l.i l.invariant.0 refl, every_next _ l.i l.invariant.1 refl, every_next _ l.i l.invariant.2 refl, every_next _ l.i l.invariant.3 refl)

pub returns : goal.returns
unfolding T.row_fine
returns c =
    let l = c.loop-i in
    rw (← c.word-n.ensures) (every_end _ l.i _ (all_four _ _ _ _ l.i l.invariant.0 l.invariant.1 l.invariant.2 l.invariant.3) (omega arith) (omega arith))
