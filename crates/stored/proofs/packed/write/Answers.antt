use mathlib.Core.Path.{◌∙◌}
use Rattle.stored.proofs.Unpacks as U
use borrow.Author.Rules.{rules}
use Rattle.stored.proofs.packed.write.Goals as goal

pub loop-at-preserved-then-zeros-gt0 : goal.loop-at-preserved-then-zeros-gt0
loop-at-preserved-then-zeros-gt0 c =
    let l = c.loop-at in
    let e = l.invariant.3 ∙ U.one_zero l.zeros _ c.if-zeros-gt0.true in
    (search rules, search rules, U.next_written _ _ l.at 0 _ l.invariant.2 (search rules) e, U.next_left _ l.at 0 _ e)

pub returns-then-s-from : goal.returns-then-s-from
returns-then-s-from c =
    let l = c.loop-at in
    U.all_written _ _ l.at l.invariant.2 l.invariant.0 (U.none_to_come l.zeros _ l.from l.left (search rules) c.if-s-from.true l.invariant.3)

pub loop-at-preserved-then-left-gt0 : goal.loop-at-preserved-then-left-gt0
loop-at-preserved-then-left-gt0 c =
    let l = c.loop-at in
    let e = U.byte_to_come l.zeros _ l.from l.left (search rules) (search rules) (search rules) l.invariant.3 in
    (search rules, search rules, U.next_written _ _ l.at _ _ l.invariant.2 (search rules) e, U.next_left _ l.at _ _ e)

pub loop-at-preserved : goal.loop-at-preserved
loop-at-preserved c =
    let l = c.loop-at in
    (search rules, search rules, l.invariant.2, U.pair_to_come l.zeros _ l.from l.left (search rules) (search rules) (search rules) (search rules) (search rules) l.invariant.3)
