-- `image::layout::id_fault` meets its contract: none at a glance, or a scan.
use mathlib.Core.Path.{◌≡◌}
use Rattle.std.specs.declared.option.Option.TheVariants.{None}
use Rattle.laws.specs.Ranges.{first_from}
use Rattle.rules.specs.Layout.{id_wrong}
use Rattle.image.proofs.layout.id_fault.Given as goal

abbrev pub invariant-loop-i : goal.invariant-loop-i
invariant-loop-i l = (first_from (id_wrong l.s l.p) l.p l.i ≡ None)
