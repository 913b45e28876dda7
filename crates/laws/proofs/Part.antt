-- Parts of a list: `len` of its entries from `at` on, or as many as there are. One law for each return of code that takes a part of a slice.
-- Assumes nothing.
use Prim.Native.Nat.{ℕ, ◌+◌, ◌-◌, ◌≤◌}
use mathlib.Core.Path.{◌≡◌, sym, ◌∙◌, ap}
use mathlib.Core.List.{List, []}
use native.Mathlib.Omega.{arith}
use native.Mathlib.Nat.{add-sub_cancel_left}
use lib.ListN.{length, take, drop, drop_of_length-le, length-drop}
use lib.Seq.{take_all, take-nil}

module _ {A : Type 0} (s : List A) (at len : ℕ) where
  pub part_past : length s ≤ at → [] ≡ take len (drop at s)
  part_past h = sym (ap (take len) (drop_of_length-le s h) ∙ take-nil len)

  pub part_rest : length s - at ≤ len → take (length s - at) (drop at s) ≡ take len (drop at s)
  part_rest h =
      let l = length-drop at s in
      take_all (length s - at) (drop at s) (omega (arith, l)) ∙ sym (take_all len (drop at s) (omega (arith, l, h)))

  pub part_whole : take (at + len - at) (drop at s) ≡ take len (drop at s)
  part_whole = rw add-sub_cancel_left

pub ruleset parts = (part_past, part_rest, part_whole)
