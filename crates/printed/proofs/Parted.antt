-- The two parts of the input. Assumes nothing.
use Prim.Native.Nat.{ℕ, ◌+◌, ◌*◌, ◌/◌, min}
use mathlib.Core.Path.{◌≡◌, ◌∙◌, ap}
use mathlib.Core.List.{List}
use native.Mathlib.Omega.{arith}
use lib.ListN.{length, take, drop, length-drop}
use lib.Seq.{take_all}
use Rattle.rules.specs.Layout.{kind_count, row_count}
use Rattle.rules.specs.Report.{image_length, image_part, formula_part}

module _ (s : List ℕ) {k r : ℕ} (a : k ≡ kind_count s) (b : r ≡ row_count s) where
  pub length_told : {n : ℕ} → n ≡ min (1 + (k + 2) / 3 + (r + 4) / 5) 121 → 512 * n ≡ image_length s
  unfolding image_length
  length_told h = rw (← a, ← b) (omega (arith, h))

module _ (s : List ℕ) {n : ℕ} (e : n ≡ image_length s) {r : List ℕ} where
  pub image_told : r ≡ take n s → r ≡ image_part s
  image_told h = h ∙ ap (λ (k : ℕ). take k s) e

  pub formula_told : r ≡ take (length s) (drop n s) → r ≡ formula_part s
  formula_told h =
      let l = length-drop n s in
      h ∙ take_all (length s) (drop n s) (omega (arith, l)) ∙ ap (λ (k : ℕ). drop k s) e

pub ruleset lengths = (length_told)
