use mathlib.Core.Path.{refl}
use borrow.Author.Rules.{rules}
use lib.ListN.{length-set}
use Rattle.laws.proofs.Tab.{fills}
use Rattle.catalog.proofs.fields.exponents_at.Goals as goal

pub loop-b-init : goal.loop-b-init
loop-b-init c = (refl, search (fills, rules))

pub loop-b-preserved : goal.loop-b-preserved
loop-b-preserved c = search (fills, length-set, rules)
