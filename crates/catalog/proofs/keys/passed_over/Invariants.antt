-- `catalog::keys::passed_over` meets its contract: sixteen kinds at a time.
use Prim.Native.Nat.{◌*◌}
use mathlib.Core.Path.{◌≡◌}
use Rattle.std.specs.declared.option.Option.TheVariants.{None}
use Rattle.laws.specs.Ranges.{first}
use Rattle.catalog.specs.Keys.{key_fits}
use Rattle.catalog.proofs.keys.passed_over.Given as goal

abbrev pub invariant-loop-block : goal.invariant-loop-block
invariant-loop-block l = first (key_fits l.keys l.key) (16 * l.block) ≡ None
