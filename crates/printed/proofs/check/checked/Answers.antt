use mathlib.Core.Path.{refl}
use lib.ListN.{replicate}
use borrow.Author.Rules.{rules}
use Rattle.printed.proofs.Compiled.{runs}
use Rattle.printed.proofs.check.checked.Goals as goal

pub returns : goal.returns
returns c =
    runs c.args.image.now _ (replicate 9296 0) (λ i. search rules) refl c.in_ok-compile.ensures.value c.in_ok-compile.ensures.table_after c.own_rows.ensures c.run.ensures
