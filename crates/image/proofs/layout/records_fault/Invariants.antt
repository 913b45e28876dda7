-- `image::layout::records_fault` meets its contract: record by record, whatever rule the record's check follows.
use Prim.Native.Nat.{ℕ}
use mathlib.Core.Path.{◌≡◌}
use mathlib.Core.Bool.{Bool}
use Rattle.std.specs.declared.option.Option.TheVariants.{None}
use Rattle.image.specs.Shown.{records_at, Follows}
use Rattle.image.proofs.layout.records_fault.Given as goal

abbrev pub invariant-loop-j : goal.invariant-loop-j
invariant-loop-j g l =
    (wrong : ℕ → ℕ → Bool) → Follows (goal.F-post g l.fault) wrong l.bytes → records_at wrong l.bytes l.p l.j ≡ None
