-- `catalog::ids::id_of` meets its contract.
use Rattle.catalog.proofs.Alike.{id_found}
use Rattle.catalog.proofs.ids.id_of.Goals as goal

pub returns : goal.returns
returns c = id_found (λ y. y.now) _ _ c.first_chunk.result c.after.ensures c.first_chunk.ensures.cases
