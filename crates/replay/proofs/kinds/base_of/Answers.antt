-- `replay::kinds::base_of` meets its contract.
use borrow.Author.Tests.{tests}
use borrow.Author.Rules.{rules}
use Rattle.replay.specs.Compiled.{is_base, base_of}
use Rattle.replay.proofs.Ranges.{first_told}
use Rattle.replay.proofs.kinds.base_of.Goals as goal

pub returns : goal.returns
unfolding base_of is_base
returns c =
    let a = c.args in
    rw (← c.byte_at.ensures) (first_told (is_base a.s.now a.b) c.byte_at.result _ _ _ c.find.ensures.ran (λ x b q k. search (rules, tests)))
