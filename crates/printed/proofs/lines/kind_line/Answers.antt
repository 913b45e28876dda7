-- `printed::lines::kind_line` meets its contract.
use mathlib.Core.Path.{◌∙◌, ap}
use native.Mathlib.Omega.{arith}
use Rattle.printed.specs.Shown.{added}
use Rattle.printed.proofs.Added.{five_parts}
use Rattle.printed.proofs.Digits.{twenty}
use Rattle.printed.proofs.Told.{kind_short}
use Rattle.printed.proofs.lines.kind_line.Goals as goal

pub returns : goal.returns
returns c =
    let f = c.ranges.k in
    let e = c.from.ensures in
    five_parts _ _ _ (omega arith) (twenty _ (omega (arith, f))) (kind_short _ _) c.empty.ensures c.add.ensures (rw e at c.add_number.ensures) c.put.ensures (c.add-2.ensures ∙ ap (added c.put.result) c.kind_part.ensures) c.put-2.ensures
