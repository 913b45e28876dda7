-- The lines, part by part, and that they are the rules' own. Assumes nothing.
use Prim.Native.Nat.{ℕ, ◌+◌, ◌≤◌}
use mathlib.Core.Path.{◌≡◌, refl, ap}
use mathlib.Core.Bool.{Bool, true, false, not, cond}
use mathlib.Core.List.{List, []}
use Rattle.std.specs.declared.option.Option.{Option}
use Rattle.std.specs.declared.option.Option.TheVariants.{None, Some}
use native.Mathlib.Omega.{arith}
use lib.Dec.{ltb}
use lib.ListN.{length, take, drop, length-take}
use Rattle.laws.specs.Options.{found}
use Rattle.laws.specs.Out.{given, refused}
use Rattle.laws.specs.Ranges.{first}
use Rattle.laws.proofs.First.{first_below}
use Rattle.rules.specs.Layout.{filled, kind_count}
use Rattle.rules.specs.Catalog.{kind_at}
use Rattle.rules.specs.Image.{image_check}
use Rattle.rules.specs.Refusal.{Placed}
use Rattle.rules.specs.Formula as rule
use Rattle.rules.specs.Report as report
use Rattle.error.specs.declared.said.Said.{Said}
use Rattle.error.proofs.Told.{said_told}
use Rattle.formula.specs.Shown.{termed}
use Rattle.printed.specs.Shown.{of_formula, line_of, refused_line}

-- ---- an id has at most 32 bytes
id_short : (s : List ℕ) (p : ℕ) → length (report.id_part s p) ≤ 32
unfolding report.id_part
id_short s p = go (first (λ i. not (filled s (p + i))) 32) refl
  where
    go : (o : Option ℕ) → first (λ i. not (filled s (p + i))) 32 ≡ o → length (take (found o (λ i. i) 32) (drop p s)) ≤ 32
    go None e = let l = length-take 32 (drop p s) in omega (arith, l)
    go (Some i) e =
        let l = length-take i (drop p s) in
        let h = first_below (λ i. not (filled s (p + i))) 32 e in
        omega (arith, l, h)

pub kind_short : (s : List ℕ) (k : ℕ) → length (report.kind_part s k) ≤ 32
unfolding report.kind_part
kind_short s k = go (image_check s) (ltb k (kind_count s))
  where
    go : (m : Placed (Unit {0})) (t : Bool) → length {A = ℕ} (elim m [ given u ↦ cond t (report.id_part s (kind_at k)) [] | refused x ↦ [] ]) ≤ 32
    go (given u) true = id_short s (kind_at k)
    go (given u) false = omega arith
    go (refused x) t = omega arith

-- ---- the code's line for an answer is the rules'
module _ (image : List ℕ) where
  pub line_termed : (m : Placed rule.Term) → line_of image (of_formula (termed m)) ≡ report.line image m
  unfolding line_of of_formula termed report.line
  line_termed (given rule.Number) = refl
  line_termed (given (rule.Kind k)) = refl
  line_termed (refused x) = ap (λ (s : Said). refused_line s.number x.place) (said_told x.refusal)
