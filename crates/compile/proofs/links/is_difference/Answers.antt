use native.Mathlib.Omega.{arith}
use Rattle.rules.specs.Table.{kinds_of}
use Rattle.compile.proofs.Neutral.{difference_here, difference_end}
use Rattle.compile.proofs.links.is_difference.Goals as goal

pub returns-then-is_difference_of : goal.returns-then-is_difference_of
returns-then-is_difference_of c =
    difference_here (kinds_of c.args.t.now) c.args.k c.loop-j.j c.kind_count-j-end.ensures c.loop-j.invariant (omega arith) c.is_difference_of.ensures c.if-is_difference_of.true

pub returns : goal.returns
returns c =
    difference_end (kinds_of c.args.t.now) c.args.k c.loop-j.j c.kind_count-j-end.ensures c.loop-j.invariant (omega arith) (omega arith)
