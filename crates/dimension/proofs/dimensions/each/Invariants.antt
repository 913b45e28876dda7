-- `dimension::dimensions::each` meets its contract. The loop's invariant: the first i answers are made, and each is within the limits.
use Rattle.std.proofs.Common.{◌≡◌, length, take}
use mathlib.Core.List.{zip_with}
use Rattle.std.specs.declared.option.Option.{Option}
use Rattle.std.specs.declared.option.Option.TheVariants.{Some}
use Rattle.dimension.specs.declared.rational.Rational.{Rational}
use Rattle.dimension.specs.Applied.{Computes}
use Rattle.dimension.specs.Dimension as D
use Rattle.dimension.proofs.dimensions.each.Given as goal

abbrev pub invariant-loop-i : goal.invariant-loop-i
invariant-loop-i g l =
    (length l.out ≡ 12)
    × ((f : Rational → Rational → Option Rational) → Computes (λ x y r. goal.F-post g l.rule x y r) f l.a l.b
    → D.all (take l.i (zip_with f l.a l.b)) ≡ Some (take l.i l.out))
