-- `compile::links::is_difference` meets its contract. The loop's invariant: no kind before j has the difference k.
use mathlib.Core.Path.{◌≡◌}
use Rattle.std.specs.declared.option.Option.TheVariants.{None}
use Rattle.laws.specs.Ranges.{first}
use Rattle.rules.specs.Table.{kinds_of}
use Rattle.rules.specs.Catalog.{meant}
use Rattle.compile.proofs.links.is_difference.Given as goal

abbrev pub invariant-loop-j : goal.invariant-loop-j
invariant-loop-j l = first (λ i. meant l.k ((kinds_of l.t).difference i)) l.j ≡ None
