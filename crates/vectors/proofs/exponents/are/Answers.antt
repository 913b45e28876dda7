-- `vectors::exponents::are` meets its contract.
use borrow.Author.Rules.{rules}
use Rattle.dimension.proofs.DimensionLaws.{equal_same}
use Rattle.vectors.proofs.Found.{found_stored}
use Rattle.vectors.proofs.exponents.are.Goals as goal

pub returns : goal.returns
returns c = found_stored c.args.found c.args.stored c.is_some_and.ensures (λ x p t. equal_same x c.args.stored (search (p, t, rules)))
