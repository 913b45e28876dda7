-- An operation told, whether it is a quotient, and what exponents it joins to. Assumes nothing.
use mathlib.Core.Path.{◌≡◌}
use mathlib.Core.Bool.{Bool, true, false}
use Rattle.dimension.specs.declared.grade.ProductOp.{ProductOp}
use Rattle.dimension.specs.declared.grade.ProductOp.TheVariants.{Div}
use Rattle.dimension.specs.Dimension as D
use Rattle.dimension.specs.declared.dimensions.Dimensions.{Dimensions}
use Rattle.std.specs.declared.option.Option.{Option}
use Rattle.rules.specs.Kinds.{same_op}
use Rattle.rules.specs.Arithmetic as rule

-- t is the test, o the outcome of a call
module _ (op : ProductOp) (a b : Dimensions) {t : Bool} {o : Option Dimensions} (e : t ≡ same_op op Div) where
  pub joined_quotient : t ≡ true → o ≡ D.quotient a b → (D.or_one o) ≡ rule.joined op a b
  unfolding rule.joined
  joined_quotient p f = rw (← e, p, f)

  pub joined_product : t ≡ false → o ≡ D.product a b → (D.or_one o) ≡ rule.joined op a b
  unfolding rule.joined
  joined_product p f = rw (← e, p, f)

pub ruleset quotients = (joined_quotient, joined_product)
