-- `replay::compiled::agrees` meets its contract.
use Rattle.replay.proofs.Compared.{compiled_told}
use borrow.Author.Rules.{rules}
use Rattle.replay.proofs.compiled.agrees.Goals as goal

pub returns : goal.returns
returns c = search (compiled_told, rules)
