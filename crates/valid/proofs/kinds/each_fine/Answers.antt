use Rattle.std.proofs.Common.{rules}
use borrow.Author.Tests.{not-false}
use Rattle.laws.proofs.All.{alls}
use Rattle.valid.proofs.kinds.each_fine.Goals as goal

pub loop-k-init : goal.loop-k-init
loop-k-init c = search (alls, rules)

pub returns-then-not-kind_fine : goal.returns-then-not-kind_fine
returns-then-not-kind_fine c = search (alls, rules)

pub loop-k-preserved : goal.loop-k-preserved
loop-k-preserved c = search (alls, not-false, rules)
