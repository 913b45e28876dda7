-- `exports::kind_power` meets its contract.
use borrow.Author.Rules.{rules}
use mir.Syntax.{w32}
use mir.Val.{SFits}
use mir.ValLaws.{to_z-of_z}
use Rattle.exports.proofs.Sheets.{kind_laid}
use Rattle.exports.proofs.kind_power.Goals as goal

pub returns-clause-out_after : goal.returns-clause-out_after
returns-clause-out_after c =
    let fits : SFits w32 c.args.num = search rules in
    let answer = rw (to_z-of_z w32 c.args.num fits) at c.power-answer.ensures.value in
    search (kind_laid, answer, c.map_or_else.ensures, rules)
