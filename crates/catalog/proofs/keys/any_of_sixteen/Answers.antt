-- `catalog::keys::any_of_sixteen` meets its contract.
use native.Mathlib.Omega.{arith}
use Rattle.catalog.proofs.Keyed.{any_key}
use Rattle.catalog.proofs.keys.any_of_sixteen.Goals as goal

pub returns : goal.returns
returns c = any_key _ _ _ 16 c.requires (omega arith) c.contains.ensures.cases
