-- `image::layout::denominators_fault` meets its contract: a scan.
use Prim.Native.Nat.{◌+◌, ◌*◌}
use mathlib.Core.Path.{◌≡◌}
use Rattle.std.specs.declared.option.Option.TheVariants.{None}
use Rattle.laws.specs.Ranges.{first}
use Rattle.image.specs.Shown.{denominator_wrong}
use Rattle.image.proofs.layout.denominators_fault.Given as goal

abbrev pub invariant-loop-b : goal.invariant-loop-b
invariant-loop-b l = (first (λ k. denominator_wrong l.s (l.p + 98 + 4 * k)) l.b ≡ None)
