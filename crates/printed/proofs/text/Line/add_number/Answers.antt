use Prim.Native.Nat.{◌+◌, ◌-◌, ◌%◌}
use mathlib.Core.Path.{refl, sym, ◌∙◌, ap}
use mathlib.Core.List.{append-nil}
use native.Mathlib.Omega.{arith}
use lib.ListN.{length-set}
use Rattle.rules.specs.Report.{digits}
use Rattle.printed.specs.Shown.{added}
use Rattle.printed.proofs.Digits.{tens, more_room, room_left, put_digit, put_all}
use Rattle.printed.proofs.text.Line.add_number.Goals as goal

pub loop-rest-init : goal.loop-rest-init
unfolding tens
loop-rest-init c = (omega arith, omega arith, refl, omega arith, sym (append-nil (digits c.args.n)))

pub loop-rest-preserved : goal.loop-rest-preserved
loop-rest-preserved c =
    let l = c.loop-rest in
    let v = l.invariant in
    let h = c.loop-rest-test.true in (
      more_room l.rest l.i h v.3,
      omega arith,
      length-set l.text (l.i - 1) (48 + l.rest % 10) ∙ v.2,
      room_left l.rest l.i v.0 v.3,
      put_digit l.rest l.i c.args.n (l.i - 1) l.text (omega arith) (omega arith) v.4 h,
    )

pub returns : goal.returns
returns c =
    let l = c.loop-rest in
    let v = l.invariant in
    c.add.ensures ∙ ap (added c.args.self) (sym (put_all l.rest l.i c.args.n (l.i - 1) l.text (omega arith) v.2 v.1 v.4 (omega arith)))
