-- What a rule on two exponents computes; no public function is stated by it.
use Rattle.std.specs.Prelude.{◌≡◌, ℕ, ◌<◌, get_or}
use mathlib.Core.List.{List}
use Rattle.dimension.specs.declared.rational.Rational.{Rational}
use Rattle.std.specs.declared.option.Option.{Option}

-- of the exponents of each base the rule, of which R says what it can answer, answers what f does
abbrev pub Computes : (Rational → Rational → Option Rational → Type 0) → (Rational → Rational → Option Rational) → List Rational → List Rational → Type 0
Computes R f a b =
    (k : ℕ) (d : Rational) (x : Option Rational) → k < 12 → R (get_or a k d) (get_or b k d) x → x ≡ f (get_or a k d) (get_or b k d)
