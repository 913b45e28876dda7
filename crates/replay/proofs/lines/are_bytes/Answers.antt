-- `replay::lines::are_bytes` meets its contract.
use borrow.Author.Tests.{tests}
use borrow.Author.Rules.{rules}
use Rattle.replay.proofs.Ranges.{all_told}
use Rattle.replay.specs.Pieces.{byte_as}
use Rattle.replay.proofs.lines.are_bytes.Goals as goal

pub returns : goal.returns
unfolding byte_as
returns c =
    let a = c.args in
    all_told (byte_as a.s.now a.t.now) a.n _ _ _ c.all.ensures.ran (λ x b q k. search (rules, tests))
