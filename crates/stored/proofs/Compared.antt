-- Twins and values compared one by one: where one isn't the stored one, they aren't all. Assumes nothing.
use Prim.Native.Nat.{ℕ, ◌<◌, ◌≤◌}
use mathlib.Core.Path.{◌≡◌}
use mathlib.Core.Bool.{Bool, false, and-false}
use mathlib.Core.List.{List}
use lib.ListN.{length}
use Rattle.laws.specs.Ranges.{all}
use Rattle.laws.proofs.All.{all_here}
use Rattle.rules.specs.Bytes.{le2}
use Rattle.error.specs.declared.said.Said.{Said}
use Rattle.stored.specs.Answers.{twin_as, twins_as, value_as, values_as}

pub twin_differs : (s twins : List ℕ) (i : ℕ) {n : ℕ} {b : Bool} → n ≡ le2 s 6 → i < n → b ≡ twin_as s twins i → b ≡ false → false ≡ twins_as s twins
unfolding twins_as
twin_differs s twins i e l t f = rw (← e, ← all_here (twin_as s twins) i _ l t f, and-false)

pub value_differs : (s : List ℕ) (at : ℕ) (said : Said) (i : ℕ) {b : Bool} → i < said.count → b ≡ value_as s at said i → b ≡ false → false ≡ values_as s at said
unfolding values_as
value_differs s at said i l t f = all_here (value_as s at said) i said.count l t f
