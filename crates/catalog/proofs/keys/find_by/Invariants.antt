-- `catalog::keys::find_by` meets its contract. The loop's invariant: no kind before k has this key and id.
use mathlib.Core.Path.{◌≡◌}
use Rattle.std.specs.declared.option.Option.TheVariants.{None}
use Rattle.laws.specs.Ranges.{first}
use Rattle.rules.specs.Layout.{kind_count}
use Rattle.catalog.specs.Keys.{key_at, named_by}
use Rattle.catalog.proofs.keys.find_by.Given as goal

abbrev pub invariant-loop-k : goal.invariant-loop-k
invariant-loop-k l = (l.n ≡ kind_count l.image) × (l.key ≡ key_at l.image l.p) × (first (named_by l.image l.keys l.p l.key) l.k ≡ None)
