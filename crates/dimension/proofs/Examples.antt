-- Worked examples, computed: zero, the ends of the declared range and of the limits, and one step past each. Assumes nothing.
use mathlib.Core.Path.{◌≡◌, refl}
use mathlib.Core.Bool.{true, false}
use mathlib.Core.List.{List, [], ◌∷◌, map}
use Prim.Native.Nat.{ℕ}
use lib.IntN.{pos, neg_ℤ}
use lib.ListN.{set}
use Rattle.dimension.specs.Gcd.{euclid, gcd}
use Rattle.dimension.specs.Fraction.{ratio, lowest, within, limited, answer, sum, difference, product, opposite, declared}
use Rattle.dimension.specs.Dimension as D
use Rattle.dimension.specs.declared.rational.Rational.{Rational}
use Rattle.std.specs.declared.option.Option.{Option}
use Rattle.std.specs.declared.option.Option.TheVariants.{None, Some}
use Rattle.dimension.specs.declared.dimensions.Dimensions.{Dimensions}

-- n / d, and −n / d
abbrev up : ℕ → ℕ → Rational
up n d = ratio (pos n) d

abbrev down : ℕ → ℕ → Rational
down n d = ratio (neg_ℤ (pos n)) d

record Case : Type 0 where
  asked : Option Rational
  answered : Option Rational

abbrev cases : List Case
cases =
    -- zero
    record { asked = sum (up 0 1) (up 0 1); answered = Some (up 0 1) }
    ∷ record { asked = opposite (up 0 1); answered = Some (up 0 1) }
    ∷ record { asked = difference (up 1 2) (up 1 2); answered = Some (up 0 1) }
    ∷ record { asked = answer (pos 0) 9; answered = Some (up 0 1) }
    -- lowest terms
    ∷ record { asked = sum (up 1 2) (up 1 3); answered = Some (up 5 6) }
    ∷ record { asked = product (down 2 3) (down 3 4); answered = Some (up 1 2) }
    ∷ record { asked = answer (neg_ℤ (pos 6)) 4; answered = Some (down 3 2) }
    -- the ends of what can be declared: −32,768 and 32,767, over 1 and over 32,767
    ∷ record { asked = sum (down 32768 1) (up 32767 1); answered = Some (down 1 1) }
    ∷ record { asked = difference (down 32768 1) (up 32767 1); answered = Some (down 65535 1) }
    ∷ record { asked = sum (up 1 32767) (up 32767 1); answered = Some (up 1073676290 32767) }
    ∷ record { asked = sum (down 32768 32767) (down 32768 32765); answered = Some (down 2147352576 1073610755) }
    ∷ record { asked = product (up 1 32767) (down 32768 1); answered = Some (down 32768 32767) }
    -- the ends of the limits, and one step past them
    ∷ record { asked = sum (up 2147483646 1) (up 1 1); answered = Some (up 2147483647 1) }
    ∷ record { asked = sum (up 2147483647 1) (up 1 1); answered = None }
    ∷ record { asked = difference (down 2147483646 1) (up 1 1); answered = Some (down 2147483647 1) }
    ∷ record { asked = difference (down 2147483647 1) (up 1 1); answered = None }
    ∷ record { asked = product (up 1 2147483647) (down 1 1); answered = Some (down 1 2147483647) }
    ∷ record { asked = product (up 1 1073741824) (up 1 2); answered = None }
    ∷ record { asked = product (up 2147483647 2) (up 2 2147483647); answered = Some (up 1 1) }
    -- reduced first, tested then; the least number of 32 bits; nothing over zero
    ∷ record { asked = answer (neg_ℤ (pos 2147483648)) 2; answered = Some (down 1073741824 1) }
    ∷ record { asked = answer (neg_ℤ (pos 2147483648)) 1; answered = None }
    ∷ record { asked = opposite (down 2147483648 1); answered = None }
    ∷ record { asked = answer (pos 2) 2147483648; answered = Some (up 1 1073741824) }
    ∷ record { asked = answer (pos 5) 0; answered = None }
    ∷ record { asked = answer (pos 0) 0; answered = None }
    ∷ []

shown : map (λ (c : Case). c.asked) cases ≡ map (λ (c : Case). c.answered) cases
unfolding answer sum difference product opposite limited within lowest gcd euclid
shown = refl

-- ---- powers of dimensions with one exponent
abbrev base : ℕ → Rational → Dimensions
base k e = D.dimensions (set (D.one).powers k e)

record Power : Type 0 where
  asked : Option Dimensions
  answered : Option Dimensions

abbrev powers : List Power
powers =
    record { asked = D.power (base 0 (up 2 1)) (up 1 2); answered = Some (base 0 (up 1 1)) }
    ∷ record { asked = D.power (base 11 (down 32768 1)) (down 1 32768); answered = Some (base 11 (up 1 1)) }
    ∷ record { asked = D.power (base 0 (up 1 1)) (up 2147483647 1); answered = Some (base 0 (up 2147483647 1)) }
    ∷ record { asked = D.power (base 0 (up 2 1)) (up 2147483647 1); answered = None }
    ∷ record { asked = D.power (base 5 (up 1 32767)) (up 0 1); answered = Some D.one }
    ∷ []

powers_shown : map (λ (c : Power). c.asked) powers ≡ map (λ (c : Power). c.answered) powers
unfolding D.power D.outcome answer product limited within lowest gcd euclid
powers_shown = refl

-- ---- what can be declared: −32,768 to 32,767 over 1 to 32,767, in lowest terms
declared_shown : map declared (up 32767 1 ∷ down 32768 1 ∷ up 0 1 ∷ up 1 32767 ∷ []) ≡ true ∷ true ∷ true ∷ true ∷ []
unfolding declared gcd euclid
declared_shown = refl

undeclared_shown : map declared (up 32768 1 ∷ down 32769 1 ∷ up 1 32768 ∷ up 1 0 ∷ up 2 4 ∷ up 0 2 ∷ []) ≡ false ∷ false ∷ false ∷ false ∷ false ∷ false ∷ []
unfolding declared gcd euclid
undeclared_shown = refl
