-- `formula::walk::run` meets its contract: a malformed formula.
use Rattle.formula.proofs.Ends.{run_bad}
use Rattle.formula.proofs.walk.run.Goals as goal

pub returns-in-Some : goal.returns-in-Some
returns-in-Some c = run_bad _ _ _ c.malformed.ensures c.in-Some.is c.at.ensures
