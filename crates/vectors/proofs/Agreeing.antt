-- A record of exponents.bin agrees: one law for each operation. Assumes nothing.
use mathlib.Core.List.{List}
use mathlib.Core.Path.{◌≡◌}
use Prim.Native.Nat.{ℕ}
use lib.ListN.{drop}
use Rattle.dimension.specs.Fraction as F
use Rattle.dimension.specs.Dimension as D
use Rattle.dimension.specs.declared.rational.Rational.{Rational}
use Rattle.std.specs.declared.option.Option.{Option}
use Rattle.std.specs.declared.option.Option.TheVariants.{Some}
use Rattle.dimension.specs.declared.dimensions.Dimensions.{Dimensions}
use Rattle.rules.specs.Bytes.{le4}
use Rattle.stored.specs.Exponents as E
use Rattle.vectors.specs.ExponentRecords as R
use Rattle.vectors.specs.declared.exponents.Operation.TheVariants.{Reduce, Add, Subtract, Multiply, Product, Quotient, Power}

module _ (s : List ℕ) where
  pub reduce_agrees : {x : Option Rational} {a r : Rational} → R.number Reduce ≡ le4 s 0 → x ≡ Some r → x ≡ F.answer a.num a.den → a ≡ E.exponent (drop 4 s) → r ≡ E.exponent (drop 20 s) → R.answer s ≡ R.stored s
  unfolding R.answer R.stored R.chosen R.number R.of_exponents
  reduce_agrees w e o p u = rw (← w) cc

  pub add_agrees : {x : Option Rational} {a b r : Rational} → R.number Add ≡ le4 s 0 → x ≡ Some r → x ≡ F.sum a b → a ≡ E.exponent (drop 4 s) → b ≡ E.exponent (drop 12 s) → r ≡ E.exponent (drop 20 s) → R.answer s ≡ R.stored s
  unfolding R.answer R.stored R.chosen R.number R.of_exponents
  add_agrees w e o p q u = rw (← w) cc

  pub subtract_agrees : {x : Option Rational} {a b r : Rational} → R.number Subtract ≡ le4 s 0 → x ≡ Some r → x ≡ F.difference a b → a ≡ E.exponent (drop 4 s) → b ≡ E.exponent (drop 12 s) → r ≡ E.exponent (drop 20 s) → R.answer s ≡ R.stored s
  unfolding R.answer R.stored R.chosen R.number R.of_exponents
  subtract_agrees w e o p q u = rw (← w) cc

  pub multiply_agrees : {x : Option Rational} {a b r : Rational} → R.number Multiply ≡ le4 s 0 → x ≡ Some r → x ≡ F.product a b → a ≡ E.exponent (drop 4 s) → b ≡ E.exponent (drop 12 s) → r ≡ E.exponent (drop 20 s) → R.answer s ≡ R.stored s
  unfolding R.answer R.stored R.chosen R.number R.of_exponents
  multiply_agrees w e o p q u = rw (← w) cc

  pub product_agrees : {x : Option Dimensions} {a b r : Dimensions} → R.number Product ≡ le4 s 0 → x ≡ Some r → x ≡ D.product a b → a ≡ E.dimensions (drop 4 s) → b ≡ E.dimensions (drop 100 s) → r ≡ E.dimensions (drop 196 s) → R.answer s ≡ R.stored s
  unfolding R.answer R.stored R.chosen R.number R.of_dimensions
  product_agrees w e o p q u = rw (← w) cc

  pub quotient_agrees : {x : Option Dimensions} {a b r : Dimensions} → R.number Quotient ≡ le4 s 0 → x ≡ Some r → x ≡ D.quotient a b → a ≡ E.dimensions (drop 4 s) → b ≡ E.dimensions (drop 100 s) → r ≡ E.dimensions (drop 196 s) → R.answer s ≡ R.stored s
  unfolding R.answer R.stored R.chosen R.number R.of_dimensions
  quotient_agrees w e o p q u = rw (← w) cc

  pub power_agrees : {x : Option Dimensions} {a r : Dimensions} {b : Rational} → R.number Power ≡ le4 s 0 → x ≡ Some r → x ≡ D.power a b → a ≡ E.dimensions (drop 4 s) → b ≡ E.exponent (drop 100 s) → r ≡ E.dimensions (drop 108 s) → R.answer s ≡ R.stored s
  unfolding R.answer R.stored R.chosen R.number
  power_agrees w e o p q u = rw (← w) cc

pub ruleset agreeing = (reduce_agrees, add_agrees, subtract_agrees, multiply_agrees, product_agrees, quotient_agrees, power_agrees)
