use Rattle.std.proofs.Common.{rules}
use borrow.Author.Tests.{not-false}
use Rattle.laws.proofs.All.{alls}
use Rattle.valid.proofs.rows.rows_fine.Goals as goal

pub loop-i-init : goal.loop-i-init
loop-i-init c = search (alls, rules)

pub returns-then-not-row_fine : goal.returns-then-not-row_fine
returns-then-not-row_fine c = search (alls, rules)

pub loop-i-preserved : goal.loop-i-preserved
loop-i-preserved c = search (alls, not-false, rules)
