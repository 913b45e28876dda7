-- `written::kinds::kinds_in` meets its contract.
use Rattle.written.proofs.Kinded.{kinds_told}
use Rattle.written.proofs.kinds.kinds_in.Goals as goal

pub returns : goal.returns
returns c =
    kinds_told _ _ _ c.requires.image_bound c.kind_count.ensures c.list_links.ensures c.kinds_by.ensures
