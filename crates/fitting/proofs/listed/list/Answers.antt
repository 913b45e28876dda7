use borrow.Author.Rules.{rules}
use Rattle.laws.proofs.Picked.{picks}
use Rattle.fitting.proofs.listed.list.Goals as goal
use Rattle.fitting.proofs.listed.list.Goals.{else-fits, then-fits}

pub loop-k-preserved : goal.loop-k-preserved
loop-k-preserved c = elim c.if-fits.branch [ then-fits x ↦ search (picks, rules) | else-fits x ↦ search (picks, rules) ]
