-- `replay::compiled::are_rows` meets its contract.
use borrow.Author.Tests.{tests}
use borrow.Author.Rules.{rules}
use Rattle.replay.proofs.Ranges.{all_told}
use Rattle.replay.specs.Compiled.{row_as}
use Rattle.replay.proofs.Compared.{rows_told}
use Rattle.replay.proofs.compiled.are_rows.Goals as goal

pub returns : goal.returns
returns c =
    let test = row_as c.after-rest.result.now c.args.t.now in
    let e = all_told test c.u16_at-2.result _ _ c.all.result c.all.ensures.ran (λ x b q k. search (rules, tests)) in
    search (rows_told, rules)
