-- `tokens::token::token_by` meets its contract: whether the code is an operation's.
use borrow.Author.Rules.{rules}
use Rattle.tokens.proofs.Coded.{codes}
use Rattle.tokens.proofs.token.token_by.Goals as goal

pub returns-in-Some : goal.returns-in-Some
returns-in-Some c = search (codes, rules)

pub returns-in_default-code : goal.returns-in_default-code
returns-in_default-code c = search (codes, rules) depth 10
