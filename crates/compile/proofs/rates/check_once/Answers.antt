use borrow.Author.Rules.{rules}
use Rattle.compile.proofs.Rated.{onces}
use Rattle.compile.proofs.rates.check_once.Goals as goal

pub returns-then-j-k : goal.returns-then-j-k
returns-then-j-k c = search (onces, rules)

pub returns-else-j-k : goal.returns-else-j-k
returns-else-j-k c = search (onces, rules)
