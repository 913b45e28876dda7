-- `exports::kind_formula` meets its contract.
use borrow.Author.Rules.{rules}
use Rattle.exports.proofs.Sheets.{term_laid}
use Rattle.exports.proofs.kind_formula.Goals as goal

pub returns-clause-out_after : goal.returns-clause-out_after
returns-clause-out_after c = search (term_laid, c.map_or_else.ensures, rules)
