-- What a refusal names. Assumes nothing.
use Prim.Native.Nat.{ℕ, zero, suc}
use mathlib.Core.Path.{◌≡◌, refl}
use mathlib.Core.Bool.{true, false, true≢false}
use Rattle.std.specs.declared.option.Option.{Option}
use Rattle.std.specs.declared.option.Option.TheVariants.{None, Some}
use Rattle.std.specs.Option.{option_map}
use Rattle.dimension.specs.declared.rational.Rational.{Rational}
use Rattle.dimension.specs.declared.grade.ProductOp.{ProductOp}
use Rattle.dimension.specs.declared.grade.ProductOp.TheVariants.{Wedge}
use Rattle.rules.specs.Arithmetic as rule
use Rattle.error.specs.Shown.{op_as}
use Rattle.error.specs.declared.cause.Error.{Error}
use Rattle.error.specs.declared.cause.Error.TheVariants as cause
use Rattle.error.specs.declared.op.Op.{Op}
use Rattle.error.specs.declared.op.Op.TheVariants.{Product}
use Rattle.lookup.specs.Shown.{op_by, named}

-- ---- the product of a code, by the operation that the rules read of it
abbrev product_by : Option rule.Op → ProductOp
product_by (Some (rule.multiplied op)) = op
product_by (Some (rule.summed s)) = Wedge
product_by None = Wedge

by_code : (code : ℕ) → op_by code ≡ product_by (rule.op_by code)
unfolding op_by rule.op_by
by_code zero = refl
by_code (suc zero) = refl
by_code (suc (suc zero)) = refl
by_code (suc (suc (suc zero))) = refl
by_code (suc (suc (suc (suc zero)))) = refl
by_code (suc (suc (suc (suc (suc zero))))) = refl
by_code (suc (suc (suc (suc (suc (suc zero)))))) = refl
by_code (suc (suc (suc (suc (suc (suc (suc zero))))))) = refl
by_code (suc (suc (suc (suc (suc (suc (suc (suc n)))))))) = refl

module _ (code : ℕ) {o : Option Op} (e : o ≡ option_map op_as (rule.op_by code)) where
  pub is_product : {op : ProductOp} → o ≡ Some (Product op) → op ≡ op_by code
  is_product {op} p = rw (by_code code) (go (rule.op_by code) (rw p at e))
    where
      go : (q : Option rule.Op) → Some (Product op) ≡ option_map op_as q → op ≡ product_by q
      go None h = let z : true ≡ false = cc in absurd (true≢false z)
      go (Some (rule.multiplied x)) h = cc
      go (Some (rule.summed rule.Add)) h = let z : true ≡ false = cc in absurd (true≢false z)
      go (Some (rule.summed rule.Sub)) h = let z : true ≡ false = cc in absurd (true≢false z)

  pub is_none : ((op : ProductOp) → o ≡ Some (Product op) → ⊥) → Wedge ≡ op_by code
  is_none p = rw (by_code code) (go (rule.op_by code) e)
    where
      go : (q : Option rule.Op) → o ≡ option_map op_as q → Wedge ≡ product_by q
      go None h = refl
      go (Some (rule.multiplied x)) h = absurd (p x h)
      go (Some (rule.summed s)) h = refl

pub ruleset products = (is_product, is_none)

-- neither of the two
pub named_else : (e : Error) → ((l op r n : ℕ) → e ≡ cause.UnresolvedTwin l op r n → ⊥) → ((k : ℕ) (x : Rational) (n : ℕ) → e ≡ cause.UnresolvedPowerTwin k x n → ⊥) → None ≡ named e
unfolding named
named_else (cause.ImageLength n) p q = refl
named_else (cause.WrongBlock b) p q = refl
named_else (cause.Schema v) p q = refl
named_else (cause.WrongByte i) p q = refl
named_else (cause.Short n) p q = refl
named_else (cause.EmptyId k) p q = refl
named_else (cause.Duplicate k) p q = refl
named_else (cause.Unknown i) p q = refl
named_else (cause.AffineDimensionMismatch k d) p q = refl
named_else (cause.NestedAffineSpace k d) p q = refl
named_else (cause.InvalidDimensionlessKind k) p q = refl
named_else (cause.InvalidTimeKind k) p q = refl
named_else (cause.NoTimeKind k t) p q = refl
named_else (cause.PointRate k t i) p q = refl
named_else (cause.UnresolvedDimensions k) p q = refl
named_else (cause.RateMismatch d g) p q = refl
named_else (cause.AlsoRateOf k) p q = refl
named_else (cause.CommutativeQuotient i) p q = refl
named_else (cause.Point l op r k) p q = refl
named_else (cause.Ungraded l r a b) p q = refl
named_else (cause.InvalidOperationRule d g) p q = refl
named_else (cause.DerivedOperationRule k) p q = refl
named_else (cause.ConflictingOperationRule l r) p q = refl
named_else (cause.PowerOverLimits k) p q = refl
named_else cause.NoTable p q = refl
named_else (cause.NoKind k) p q = refl
named_else (cause.KindMismatch x a) p q = refl
named_else (cause.UnsupportedOperation c l r) p q = refl
named_else (cause.NoProductKind d g) p q = refl
named_else (cause.UngradedPower g) p q = refl
named_else (cause.NoPowerKind d) p q = refl
named_else (cause.NumberTerm c k) p q = refl
named_else (cause.Malformed i) p q = refl
named_else (cause.UnresolvedTwin l op r n) p q = absurd (p l op r n refl)
named_else (cause.UnresolvedPowerTwin k x n) p q = absurd (q k x n refl)
