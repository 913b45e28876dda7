-- `image::blocks::wrong_among` meets its contract: a scan.
use mathlib.Core.Path.{◌≡◌}
use Rattle.std.specs.declared.option.Option.TheVariants.{None}
use Rattle.laws.specs.Ranges.{first}
use Rattle.rules.specs.Image.{sum_wrong}
use Rattle.image.proofs.blocks.wrong_among.Given as goal

abbrev pub invariant-loop-b : goal.invariant-loop-b
invariant-loop-b l = (first (sum_wrong l.image) l.b ≡ None)
