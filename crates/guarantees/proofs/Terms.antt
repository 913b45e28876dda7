-- Every step of a formula gives what is calculated, so the whole formula does. Assumes nothing.
use Prim.Native.Nat.{ℕ}
use mathlib.Core.Path.{◌≡◌, refl, ap}
use mathlib.Core.Bool.{Bool, true, false}
use mathlib.Core.List.{List, []}
use Rattle.std.specs.declared.option.Option.{Option}
use Rattle.std.specs.declared.option.Option.TheVariants.{None, Some}
use native.Mathlib.Omega.{arith}
use lib.Dec.{ltb}
use lib.IntN.{pos, neg_ℤ}
use Rattle.laws.specs.Out.{Out, given, refused, mapped}
use Rattle.dimension.specs.Fraction as F
use Rattle.dimension.specs.declared.rational.Rational.{Rational}
use Rattle.dimension.specs.declared.grade.ProductOp.TheVariants.{Mul, Div, Dot, Wedge}
use Rattle.rules.specs.Kinds.{Kinds, Rows}
use Rattle.rules.specs.Refusal.{Answer}
use Rattle.rules.specs.Arithmetic.{summed, multiplied, indexed, scaled, power, combine}
use Rattle.rules.specs.Formula.{Token, Unary, exact, inexact, absolute, in_limits, Binary, combined, compared, Term, Number, Kind, with_number, two_kinds, one_kind, unary_term, binary_term, kind_term, terms, Meaning, plain, meaning, product_of, binary_of, unary_of, meanings, calculation, answered, malformed, malformed_at, formula}
use Rattle.guarantees.specs.Premises.{Guaranteed, Scalars}
use Rattle.guarantees.proofs.Missing.{within_positive}
use Rattle.guarantees.proofs.Follows.{Follows, walk_follows}
use Rattle.guarantees.proofs.Powers.{never}
use Rattle.guarantees.proofs.Calculated.{agreed, scaled_tells, sum_meant, product_meant, power_meant}

-- what a mapped answer was made from
pub made : (m : Answer ℕ) (a : Term) → mapped Kind m ≡ given a → (k : ℕ) × (m ≡ given k) × (Kind k ≡ a)
made (given k) a e = (k, refl, cc)
made (refused x) a e = let z : true ≡ false = cc in never z

abbrev inverse : Rational
inverse = F.ratio (neg_ℤ (pos 1)) 1

module _ (K : Kinds) (rows : Rows) (c : Guaranteed K rows) (s : Scalars K) where
  abbrev Same : ℕ → ℕ → Type 0
  Same k m = ◌≡◌ {A = Out (Unit {0}) Meaning} (given (meaning K (Kind k))) (given (meaning K (Kind m)))

  -- "scaling (by a number) and absolute keep"
  scaled_meant : (code k m : ℕ) → scaled K code k ≡ given m → Same k m
  scaled_meant code k m e = ap (λ (j : ℕ). given (meaning K (Kind j))) (scaled_tells K code k m e).1

  by_number_meant : (b : Binary) (k m : ℕ) → with_number K b k (scaled K 5 k) ≡ given m → binary_of K b (meaning K (Kind k)) plain ≡ given (meaning K (Kind m))
  unfolding with_number binary_of product_of
  by_number_meant (combined (multiplied Mul)) k m e = scaled_meant 4 k m e
  by_number_meant (combined (multiplied Div)) k m e = scaled_meant 5 k m e
  by_number_meant (combined (multiplied Dot)) k m e = let z : true ≡ false = cc in never z
  by_number_meant (combined (multiplied Wedge)) k m e = let z : true ≡ false = cc in never z
  by_number_meant (combined (summed t)) k m e = let z : true ≡ false = cc in never z
  by_number_meant compared k m e = let z : true ≡ false = cc in never z

  -- "number / kind is power −1"
  number_by_meant : (b : Binary) (k m : ℕ) → with_number K b k (power K 5 k (Some inverse)) ≡ given m → binary_of K b plain (meaning K (Kind k)) ≡ given (meaning K (Kind m))
  unfolding with_number binary_of product_of
  number_by_meant (combined (multiplied Mul)) k m e = scaled_meant 4 k m e
  number_by_meant (combined (multiplied Div)) k m e = ap given (power_meant K rows c s 5 k m inverse (omega arith) e)
  number_by_meant (combined (multiplied Dot)) k m e = let z : true ≡ false = cc in never z
  number_by_meant (combined (multiplied Wedge)) k m e = let z : true ≡ false = cc in never z
  number_by_meant (combined (summed t)) k m e = let z : true ≡ false = cc in never z
  number_by_meant compared k m e = let z : true ≡ false = cc in never z

  two_meant : (b : Binary) (l r k : ℕ) → two_kinds K rows b l r ≡ given k → binary_of K b (meaning K (Kind l)) (meaning K (Kind r)) ≡ given (meaning K (Kind k))
  unfolding two_kinds combine binary_of
  two_meant (combined (summed t)) l r k e = ap given (sum_meant K rows c s t l r k e)
  two_meant (combined (multiplied op)) l r k e = product_meant K rows c s l op r k e
  two_meant compared l r k e = let z = agreed l r l k e in rw z.1

  binary_meant : (b : Binary) (x y a : Term) → binary_term K rows b x y ≡ given a → binary_of K b (meaning K x) (meaning K y) ≡ given (meaning K a)
  unfolding binary_term binary_of product_of
  binary_meant b Number Number a e = let z : Number ≡ a = cc in rw (← z) (alone b)
    where
      alone : (b : Binary) → binary_of K b plain plain ≡ given plain
      alone (combined (summed t)) = refl
      alone (combined (multiplied op)) = refl
      alone compared = refl
  binary_meant b (Kind l) (Kind r) a e = let h = made (two_kinds K rows b l r) a e in rw (← h.2) (two_meant b l r h.0 h.1)
  binary_meant b (Kind k) Number a e = let h = made (with_number K b k (scaled K 5 k)) a e in rw (← h.2) (by_number_meant b k h.0 h.1)
  binary_meant b Number (Kind k) a e = let h = made (with_number K b k (power K 5 k (Some inverse))) a e in rw (← h.2) (number_by_meant b k h.0 h.1)

  one_meant : (u : Unary) (k m : ℕ) → in_limits u ≡ true → one_kind K u k ≡ given m → unary_of u (meaning K (Kind k)) ≡ given (meaning K (Kind m))
  unfolding one_kind unary_of power
  one_meant (exact e) k m h x = ap given (power_meant K rows c s 8 k m e (within_positive e h) x)
  one_meant inexact k m h x = let z : true ≡ false = cc in never z
  one_meant absolute k m h x = scaled_meant 10 k m x

  unary_meant : (u : Unary) (x a : Term) → in_limits u ≡ true → unary_term K u x ≡ given a → unary_of u (meaning K x) ≡ given (meaning K a)
  unfolding unary_term unary_of
  unary_meant u Number a h e = let z : Number ≡ a = cc in rw (← z) (alone u)
    where
      alone : (u : Unary) → unary_of u plain ≡ given plain
      alone (exact e) = refl
      alone inexact = refl
      alone absolute = refl
  unary_meant u (Kind k) a h e = let d = made (one_kind K u k) a e in rw (← d.2) (one_meant u k d.0 h d.1)

  kind_meant : (k : ℕ) (a : Term) → kind_term K k ≡ given a → ◌≡◌ {A = Out (Unit {0}) Meaning} (given (meaning K (Kind k))) (given (meaning K a))
  unfolding kind_term indexed
  kind_meant k a e = go (ltb k K.count) refl
    where
      go : (t : Bool) → ltb k K.count ≡ t → ◌≡◌ {A = Out (Unit {0}) Meaning} (given (meaning K (Kind k))) (given (meaning K a))
      go true p = let z : Kind k ≡ a = cc in rw (← z)
      go false p = let z : true ≡ false = cc in never z

  follows : Follows (terms K rows) (meanings K) (meaning K)
  unfolding terms meanings
  follows = record { number = refl; kind = kind_meant; unary = unary_meant; binary = binary_meant }

  -- the whole token list
  pub formula_meant : (toks : List Token) (t : Term) → formula K rows toks ≡ answered t → calculation K toks ≡ answered (meaning K t)
  unfolding formula calculation
  formula_meant toks t e = go (malformed_at toks) refl
    where
      go : (o : Option ℕ) → malformed_at toks ≡ o → calculation K toks ≡ answered (meaning K t)
      go None p = walk_follows (terms K rows) (meanings K) (meaning K) follows toks 0 [] t (rw p at e)
      go (Some q) p = let y : malformed q ≡ answered t = rw p at e in let z : true ≡ false = cc in never z
