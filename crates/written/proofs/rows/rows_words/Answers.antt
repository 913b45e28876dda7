use borrow.Author.Rules.{rules}
use Prim.Native.Nat.{◌+◌, ◌-◌}
use mathlib.Core.Path.{◌≡◌, ◌∙◌}
use lib.ListN.{length, take}
use lib.Seq.{take_all, length-take-le}
use native.Mathlib.Omega.{arith}
use Rattle.std.proofs.lemmas.Slice.{put_mid-paste}
use Rattle.written.proofs.Pasted.{appends, flat_turn}
use Rattle.written.proofs.InForce.{row_entered, rows_end}
use Rattle.written.proofs.rows.rows_words.Goals as goal

pub loop-i-init : goal.loop-i-init
loop-i-init c = (omega arith, c.requires.words_len, search (appends, rules), search (appends, rules))

pub loop-i-preserved : goal.loop-i-preserved
loop-i-preserved c =
    let l = c.loop-i in
    let e = c.entries_at-e.result in
    let w = take e.count e.words in
    let m : length w ≡ e.count = length-take-le e.count e.words (omega arith) in
    let p = put_mid-paste l.used (l.used + e.count - l.used) l.words c.copy_from_slice.new.self w e.count c.copy_from_slice.ensures.after (omega arith) (omega arith) in
    let t = flat_turn _ l.i l.used e.count 1600 _ w p l.invariant.3 l.invariant.2 l.invariant.1 (omega arith) (omega arith) (take_all e.count w (omega arith) ∙ row_entered _ l.i _ c.requires.named_value (omega arith) c.row_place.ensures (rw c.from.ensures at c.entries_at-e.ensures.words_value)) in
    (omega arith, t.0, t.1, t.2)

pub returns-clause-words_after : goal.returns-clause-words_after
returns-clause-words_after c =
    let l = c.loop-i in
    let t = rows_end _ l.i _ l.used _ l.invariant.3 l.invariant.2 c.row_count-i-end.ensures (omega arith) (omega arith) in
    t.0

pub returns-clause-value : goal.returns-clause-value
returns-clause-value c =
    let l = c.loop-i in
    let t = rows_end _ l.i _ l.used _ l.invariant.3 l.invariant.2 c.row_count-i-end.ensures (omega arith) (omega arith) in
    t.1
