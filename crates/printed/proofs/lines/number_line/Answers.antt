-- `printed::lines::number_line` meets its contract.
use native.Mathlib.Omega.{arith}
use Rattle.printed.specs.Shown.{number_line}
use Rattle.printed.proofs.Added.{added_blank}
use Rattle.printed.proofs.lines.number_line.Goals as goal

pub returns : goal.returns
returns c = added_blank number_line c.empty.ensures c.add.ensures (omega arith)
