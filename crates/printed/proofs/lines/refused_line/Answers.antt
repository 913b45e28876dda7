-- `printed::lines::refused_line` meets its contract.
use mathlib.Core.Path.{◌∙◌, ap}
use native.Mathlib.Omega.{arith}
use borrow.Author.Rules.{rules}
use Rattle.error.specs.declared.said.Said.{Said}
use Rattle.printed.specs.Shown.{written, refused_line}
use Rattle.printed.proofs.Added.{five_parts}
use Rattle.printed.proofs.Digits.{twenty}
use Rattle.printed.proofs.lines.refused_line.Goals as goal

pub returns : goal.returns
returns c =
    let place = c.args.fault.place in
    let l = twenty place (search rules) in
    five_parts _ _ _ (omega arith) (twenty _ (omega arith)) (omega (arith, l)) c.empty.ensures c.add.ensures c.add_number.ensures c.put.ensures c.add_number-2.ensures c.put-2.ensures
    ∙ ap (λ (x : Said). written (refused_line x.number place)) c.say-number.ensures
