-- The exponents of a kind by its flag: all bytes zero, or twelve denominators in their range, or unchecked. Assumes nothing.
use Prim.Native.Nat.{ℕ, zero, suc, ◌+◌, ◌*◌, ◌-◌, ◌%◌, ◌<◌, ◌≤◌}
use mathlib.Core.Path.{◌≡◌, refl, ◌∙◌}
use mathlib.Core.Bool.{Bool, true, false, cond, ◌&&◌, or-false, and-false}
use mathlib.Core.List.{List}
use Rattle.std.specs.declared.option.Option.{Option}
use Rattle.std.specs.declared.option.Option.TheVariants.{None, Some}
use native.Mathlib.Omega.{arith}
use borrow.Author.Tests.{ne_eqb}
use lib.Dec.{eqb}
use Rattle.laws.specs.Options.{or_else, found}
use Rattle.laws.specs.Ranges.{first, first_from}
use Rattle.laws.proofs.FirstFrom.{from_same, from_split}
use Rattle.rules.specs.Bytes.{byte}
use Rattle.rules.specs.Layout.{filled, exponent_wrong}
use Rattle.image.specs.Shown.{denominator_wrong, denominator_at}
use Rattle.image.proofs.Within.{within_in}

pub nowhere : (p n : ℕ) → first_from (λ i. false) p n ≡ None
unfolding first_from
nowhere p zero = refl
nowhere p (suc n) = rw (first_from, nowhere p n)

-- the place of the first of n + 1, from that of the first of n
placed_next : (f : ℕ → ℕ) (n : ℕ) (o : Option ℕ) (t : Bool)
    → or_else (found o (λ b. Some (f b)) None) (cond t (Some (f n)) None) ≡ found (or_else o (cond t (Some n) None)) (λ b. Some (f b)) None
placed_next f n (Some b) t = refl
placed_next f n None true = refl
placed_next f n None false = refl

module _ (s : List ℕ) (p : ℕ) where
  -- unresolved: a byte that is not zero
  pub exponents_unresolved : byte s (p + 144) ≡ 0 → first_from (exponent_wrong s p) (p + 96) 48 ≡ first_from (filled s) (p + 96) 48
  unfolding exponent_wrong
  exponents_unresolved e =
      from_same (exponent_wrong s p) (p + 96) (filled s) 48
      (λ k h. rw (within_in (p + 96) 48 (p + 96 + k) (omega arith) (omega arith), e, or-false))

  -- any other flag but 1: unchecked
  pub exponents_unchecked : (byte s (p + 144) ≡ 0 → ⊥) → (byte s (p + 144) ≡ 1 → ⊥) → first_from (exponent_wrong s p) (p + 96) 48 ≡ None
  unfolding exponent_wrong
  exponents_unchecked e f =
      from_same (exponent_wrong s p) (p + 96) (λ i. false) 48 (λ k h. rw (ne_eqb _ 0 e, ne_eqb _ 1 f, and-false))
      ∙ nowhere (p + 96) 48

  -- given: four bytes an exponent, of which the third begins the denominator
  module _ (e : byte s (p + 144) ≡ 1) where
    given_at : (b j : ℕ) → b < 12 → j < 4 → exponent_wrong s p (p + 96 + 4 * b + j) ≡ (eqb j 2 && denominator_wrong s (p + 96 + 4 * b + j))
    unfolding exponent_wrong denominator_wrong
    given_at b j h k =
        let z : (p + 96 + 4 * b + j - p) % 4 ≡ j = omega arith in
        rw (within_in (p + 96) 48 (p + 96 + 4 * b + j) (omega arith) (omega arith), e, z)

    abbrev T : ℕ → Bool
    T = exponent_wrong s p

    at_denominator : (b : ℕ) → b < 12 → first_from T (p + 96 + 4 * b) 4 ≡ cond (denominator_wrong s (p + 98 + 4 * b)) (Some (p + 98 + 4 * b)) None
    unfolding first_from
    at_denominator b h =
        let z : p + 96 + 4 * b + 2 ≡ p + 98 + 4 * b = omega arith in
        rw (first_from, given_at b 3 h (omega arith), first_from, given_at b 2 h (omega arith), first_from, given_at b 1 h (omega arith), first_from, given_at b 0 h (omega arith), z) (last (denominator_wrong s (p + 98 + 4 * b)))
      where
        last : (t : Bool) → or_else (cond t (Some (p + 98 + 4 * b)) None) None ≡ cond t (Some (p + 98 + 4 * b)) None
        last true = refl
        last false = refl

    denominators : (n : ℕ) → n ≤ 12 → first_from T (p + 96) (4 * n) ≡ denominator_at s p n
    unfolding first_from denominator_at first
    denominators zero h = refl
    denominators (suc n) h =
        let z : 4 * suc n ≡ 4 * n + 4 = omega arith in
        rw (z, from_split T (p + 96) (4 * n) 4, denominators n (omega arith), at_denominator n (omega arith))
        (placed_next (λ b. p + 98 + 4 * b) n (first (λ b. denominator_wrong s (p + 98 + 4 * b)) n) (denominator_wrong s (p + 98 + 4 * n)))

    pub exponents_given : first_from (exponent_wrong s p) (p + 96) 48 ≡ denominator_at s p 12
    exponents_given = denominators 12 (omega arith)
