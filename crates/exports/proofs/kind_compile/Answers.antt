-- `exports::kind_compile` meets its contract.
use borrow.Author.Rules.{rules}
use Rattle.exports.proofs.Sheets.{compiled_laid}
use Rattle.exports.proofs.kind_compile.Goals as goal

pub returns-clause-out_after : goal.returns-clause-out_after
returns-clause-out_after c = search (compiled_laid, c.map_or_else.ensures, rules)
