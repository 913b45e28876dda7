-- What is read past the end is 0. Assumes nothing.
use Prim.Native.Nat.{ℕ, ◌+◌, ◌≤◌}
use mathlib.Core.Path.{◌≡◌}
use mathlib.Core.List.{List}
use native.Mathlib.Omega.{arith}
use lib.ListN.{length, get_or-eq_default}
use Rattle.rules.specs.Bytes.{byte, le2, le4}

pub byte_past : (s : List ℕ) (i : ℕ) → length s ≤ i → byte s i ≡ 0
byte_past s i h = get_or-eq_default s 0 h

pub le2_past : (s : List ℕ) (i : ℕ) → length s ≤ i → le2 s i ≡ 0
unfolding le2
le2_past s i h = rw (byte_past s i h, byte_past s (i + 1) (omega (arith, h)))

module _ (s : List ℕ) (i : ℕ) where
  pub le4_past : length s ≤ i → le4 s i ≡ 0
  unfolding le4
  le4_past h = rw (le2_past s i h, le2_past s (i + 2) (omega (arith, h)))

  -- two bytes or fewer are left
  pub le4_short : length s ≤ i + 2 → le4 s i ≡ le2 s i
  unfolding le4
  le4_short h = let e = le2_past s (i + 2) h in omega (arith, e)
