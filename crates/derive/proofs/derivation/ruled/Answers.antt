-- `derive::derivation::ruled` meets its contract: one law a return, of which the check finds all but this one.
use borrow.Author.Rules.{rules}
use Rattle.derive.proofs.Derives.{derives}
use Rattle.derive.proofs.derivation.ruled.Goals as goal

pub returns-in-Some : goal.returns-in-Some
returns-in-Some c = rw c.from.ensures (search (derives, rules))
