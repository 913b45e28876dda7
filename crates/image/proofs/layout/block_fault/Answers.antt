-- `image::layout::block_fault` meets its contract: the header, a block of kinds, or one of rows.
use mathlib.Core.Path.{◌∙◌}
use native.Mathlib.Omega.{arith}
use borrow.Author.Rules.{rules}
use Rattle.rules.specs.Layout.{kind_wrong, row_wrong}
use Rattle.image.proofs.Whole.{header_block, kind_block, row_block}
use Rattle.image.proofs.layout.block_fault.Goals as goal

pub returns-then-b-eq0 : goal.returns-then-b-eq0
returns-then-b-eq0 c =
    rw c.if-b-eq0.true (c.header_fault.ensures ∙ (header_block c.args.s.now))

pub returns-then-b-k : goal.returns-then-b-k
returns-then-b-k c =
    let kinds = c.counts-kinds.ensures.kinds in
    rw kinds at (c.records_block_fault.ensures kind_wrong (λ q r e. search rules))
    ∙ (kind_block c.args.s.now c.args.b (omega arith) (rw kinds at c.if-b-k.true))

pub returns : goal.returns
returns c =
    let kinds = c.counts-kinds.ensures.kinds in
    rw (kinds, c.counts-kinds.ensures.rows) at (c.records_block_fault-2.ensures row_wrong (λ q r e. search rules))
    ∙ (row_block c.args.s.now c.args.b (omega arith) (rw kinds at c.if-b-k.false))
