-- `catalog::keys::keys_of` meets its contract: kind by kind.
use Prim.Native.Nat.{◌≤◌}
use mathlib.Core.Path.{◌≡◌}
use lib.ListN.{length, replicate}
use Rattle.laws.specs.Ranges.{tab, overlay}
use Rattle.catalog.specs.Keys.{kind_key, key_count}
use Rattle.catalog.proofs.keys.keys_of.Given as goal

abbrev pub invariant-loop-k : goal.invariant-loop-k
invariant-loop-k l = (l.n ≤ 240) × (l.n ≡ key_count l.image) × (length l.words ≡ 240) × (l.words ≡ overlay (tab (kind_key l.image) l.k) (replicate 240 0))
