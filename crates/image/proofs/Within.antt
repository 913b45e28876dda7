-- Fields lie where they lie: a test of the n bytes from q on fails before and past them. Assumes nothing.
use Prim.Native.Nat.{ℕ, ◌+◌, ◌<◌, ◌≤◌}
use mathlib.Core.Path.{◌≡◌}
use mathlib.Core.Bool.{true, false, and-false}
use mathlib.Core.List.{List}
use native.Mathlib.Omega.{arith}
use borrow.Author.Tests.{lt-leb, le-leb, le-ltb, lt-ltb}
use Rattle.rules.specs.Layout.{within, id_wrong, ids_wrong, exponent_wrong}

module _ (q n i : ℕ) where
  pub within_before : i < q → within q n i ≡ false
  within_before h = rw (lt-leb q i h)

  pub within_past : q + n ≤ i → within q n i ≡ false
  within_past h = rw (le-ltb i (q + n) h, and-false)

  pub within_in : q ≤ i → i < q + n → within q n i ≡ true
  within_in h k = rw (le-leb q i h, lt-ltb i (q + n) k)

module _ (s : List ℕ) (q i : ℕ) where
  pub id_before : i < q → id_wrong s q i ≡ false
  unfolding id_wrong
  id_before h = rw (within_before q 32 i h)

  pub id_past : q + 32 ≤ i → id_wrong s q i ≡ false
  unfolding id_wrong
  id_past h = rw (within_past q 32 i h)

  pub ids_past : q + 96 ≤ i → ids_wrong s q i ≡ false
  unfolding ids_wrong id_wrong
  ids_past h = rw (within_past q 32 i (omega arith), within_past (q + 32) 32 i (omega arith), within_past (q + 64) 32 i (omega arith))

  pub exponent_before : i < q + 96 → exponent_wrong s q i ≡ false
  unfolding exponent_wrong
  exponent_before h = rw (within_before (q + 96) 48 i h)

  pub exponent_past : q + 144 ≤ i → exponent_wrong s q i ≡ false
  unfolding exponent_wrong
  exponent_past h = rw (within_past (q + 96) 48 i (omega arith))
