-- `fitting::sought::only_fit` meets its contract: one search, and a second behind what it found.
use mathlib.Core.Path.{◌∙◌}
use Rattle.fitting.proofs.Searched.{found_second}
use Rattle.fitting.proofs.sought.only_fit.Goals as goal

pub returns-in-Some-next_fit : goal.returns-in-Some-next_fit
returns-in-Some-next_fit c = found_second _ _ (c.from-n.ensures ∙ c.kind_count.ensures) c.next_fit.ensures c.in-Some.is c.next_fit-2.ensures c.in-Some-next_fit.is
