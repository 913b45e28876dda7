-- `exports::kind_combine` meets its contract.
use borrow.Author.Rules.{rules}
use Rattle.exports.proofs.Sheets.{kind_laid}
use Rattle.exports.proofs.kind_combine.Goals as goal

pub returns-clause-out_after : goal.returns-clause-out_after
returns-clause-out_after c = search (kind_laid, c.map_or_else.ensures, rules)
