-- `exports::words::fault_words` meets its contract.
use borrow.Author.Rules.{rules}
use Rattle.exports.proofs.Made.{plain_made, dims_made}
use Rattle.exports.proofs.words.fault_words.Goals as goal

pub returns-in-None : goal.returns-in-None
returns-in-None c = search (plain_made, rules)

pub returns-in-Some : goal.returns-in-Some
returns-in-Some c = search (dims_made, rules)
