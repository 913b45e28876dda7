-- What a record of exponents.bin holds (docs/VECTORS.md), and what the lower library's definitions say of it.
use Rattle.std.specs.Prelude.{ℕ, cond, List, ltb, eqb, drop}
use Rattle.dimension.specs.Fraction as F
use Rattle.dimension.specs.Dimension as D
use Rattle.dimension.specs.declared.rational.Rational.{Rational}
use Rattle.std.specs.declared.option.Option.{Option}
use Rattle.std.specs.declared.option.Option.TheVariants.{Some}
use Rattle.dimension.specs.declared.dimensions.Dimensions.{Dimensions}
use Rattle.rules.specs.Bytes.{le4}
use Rattle.stored.specs.Exponents.{exponent, dimensions}
use Rattle.vectors.specs.declared.exponents.Operation.{Operation}
use Rattle.vectors.specs.declared.exponents.Operation.TheVariants.{Reduce, Add, Subtract, Multiply, Product, Quotient, Power}

-- an operation's number in the file
unfoldable pub number : Operation → ℕ
number Reduce = 0
number Add = 1
number Subtract = 2
number Multiply = 3
number Product = 4
number Quotient = 5
number Power = 6

-- the operations 0 to 3, and 4 and 5
unfoldable pub of_exponents : ℕ → Rational → Rational → Option Rational
of_exponents n a b =
    cond (eqb n 0) (F.answer a.num a.den) (cond (eqb n 1) (F.sum a b) (cond (eqb n 2) (F.difference a b) (F.product a b)))

unfoldable pub of_dimensions : ℕ → Dimensions → Dimensions → Option Dimensions
of_dimensions n a b = cond (eqb n 4) (D.product a b) (D.quotient a b)

pub data Answer : Type 0 where
  one : Option Rational → Answer
  twelve : Option Dimensions → Answer

-- an operation's answer by its number: of exponents, of dimensions, and of dimensions and an exponent
unfoldable pub chosen : List ℕ → Answer → Answer → Answer → Answer
chosen s a b c = cond (ltb (le4 s 0) 4) a (cond (ltb (le4 s 0) 6) b c)

-- what the definitions answer to the record that bytes begin with
unfoldable pub answer : List ℕ → Answer
answer s =
    chosen s
    (one (of_exponents (le4 s 0) (exponent (drop 4 s)) (exponent (drop 12 s))))
    (twelve (of_dimensions (le4 s 0) (dimensions (drop 4 s)) (dimensions (drop 100 s))))
    (twelve (D.power (dimensions (drop 4 s)) (exponent (drop 100 s))))

-- what the Rust answered
unfoldable pub stored : List ℕ → Answer
stored s =
    chosen s
    (one (Some (exponent (drop 20 s))))
    (twelve (Some (dimensions (drop 196 s))))
    (twelve (Some (dimensions (drop 108 s))))
