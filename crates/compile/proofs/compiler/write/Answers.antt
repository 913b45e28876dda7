-- `compile::compiler::write` meets its contract.
use native.Mathlib.Omega.{arith}
use Rattle.compile.specs.Shown.{whole}
use Rattle.compile.proofs.Copied.{all_three}
use Rattle.compile.proofs.compiler.write.Goals as goal

pub returns : goal.returns
unfolding whole
returns c =
    all_three c.args.front.now c.args.rows.now c.args.table.now 7696 c.requires.front_len_bound (omega (arith, c.requires.in_bounds)) c.copy.ensures (c.fill.ensures.after (λ y e. e)) c.copy_from_slice.ensures.after
