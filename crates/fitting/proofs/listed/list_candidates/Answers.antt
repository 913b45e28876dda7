-- `fitting::listed::list_candidates` meets its contract.
use borrow.Author.Rules.{rules}
use Rattle.fitting.proofs.Room.{rooms}
use Rattle.fitting.proofs.listed.list_candidates.Goals as goal

pub returns-then-twins-lt240 : goal.returns-then-twins-lt240
returns-then-twins-lt240 c = search (rooms, rules)

pub returns : goal.returns
returns c = search (rooms, rules)
