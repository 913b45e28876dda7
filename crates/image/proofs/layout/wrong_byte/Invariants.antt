-- `image::layout::wrong_byte` meets its contract: block by block.
use Prim.Native.Nat.{◌*◌}
use mathlib.Core.Path.{◌≡◌}
use Rattle.std.specs.declared.option.Option.TheVariants.{None}
use Rattle.laws.specs.Ranges.{first_from}
use Rattle.rules.specs.Layout.{byte_wrong}
use Rattle.image.proofs.layout.wrong_byte.Given as goal

abbrev pub invariant-loop-b : goal.invariant-loop-b
invariant-loop-b l = (first_from (byte_wrong l.s) 0 (512 * l.b) ≡ None)
