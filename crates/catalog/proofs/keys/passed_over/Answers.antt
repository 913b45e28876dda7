use Prim.Native.Nat.{◌+◌, ◌*◌}
use mathlib.Core.Path.{◌≡◌}
use borrow.Author.Rules.{rules}
use native.Mathlib.Omega.{arith}
use Rattle.laws.specs.Ranges.{first_from}
use Rattle.laws.proofs.Cases.{not_then}
use Rattle.laws.proofs.First.{first_none}
use Rattle.laws.proofs.FirstFrom.{none_there}
use Rattle.catalog.specs.Keys.{key_fits}
use Rattle.catalog.proofs.Keyed.{over_next}
use Rattle.catalog.proofs.keys.passed_over.Goals as goal

pub loop-block-init : goal.loop-block-init
loop-block-init c = search (first_none, rules)

pub loop-block-preserved : goal.loop-block-preserved
loop-block-preserved c =
    let l = c.loop-block in
    let a = c.args in
    let e : 16 * l.block + 16 ≡ 16 * (l.block + 1) = omega arith in
    rw e at (over_next _ _ (16 * l.block) l.invariant (none_there (first_from (key_fits a.keys.now a.key) (16 * l.block) 16) (rw c.from-from.ensures at c.any_of_sixteen.ensures) (not_then c.if-any_of_sixteen.false)))
