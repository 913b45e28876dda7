-- `replay::kinds::are_exponents` meets its contract.
use borrow.Author.Tests.{tests}
use borrow.Author.Rules.{rules}
use Rattle.replay.proofs.Ranges.{all_told}
use Rattle.replay.specs.Compiled.{exponent_as, exponents_as}
use Rattle.replay.proofs.kinds.are_exponents.Goals as goal

pub returns : goal.returns
unfolding exponents_as
returns c =
    let a = c.args in
    all_told (exponent_as a.s.now a.t.now) 12 _ _ _ c.all.ensures.ran (λ x b q k. search (rules, tests))
