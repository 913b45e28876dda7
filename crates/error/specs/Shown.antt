-- What the code's answers show of the rules' answers.
use Rattle.std.specs.Prelude.{ℕ, List, [], ◌∷◌, length, replicate}
use Rattle.std.specs.declared.option.Option.{Option}
use Rattle.std.specs.declared.option.Option.TheVariants.{None, Some}
use Rattle.std.specs.declared.result.Result.{Result}
use Rattle.std.specs.declared.result.Result.TheVariants.{Ok, Err}
use Rattle.laws.specs.Out.{given, refused}
use Rattle.laws.specs.Ranges.{overlay}
use Rattle.dimension.specs.declared.dimensions.Dimensions.{Dimensions}
use Rattle.rules.specs.Arithmetic as arithmetic
use Rattle.rules.specs.Refusal as rule
use Rattle.rules.specs.Refusal.{Refusal, code_of, ImageLength, WrongBlock, Schema, WrongByte, Short, EmptyId, Duplicate, Unknown, AffineDimensionMismatch, NestedAffineSpace, InvalidDimensionlessKind, InvalidTimeKind, NoTimeKind, PointRate, UnresolvedDimensions, RateMismatch, AlsoRateOf, CommutativeQuotient, Point, Ungraded, InvalidOperationRule, DerivedOperationRule, ConflictingOperationRule, PowerOverLimits, NoTable, NoKind, KindMismatch, UnsupportedOperation, UnresolvedTwin, NoProductKind, UngradedPower, NoPowerKind, UnresolvedPowerTwin, NumberTerm, Malformed}
use Rattle.error.specs.declared.cause.Error.{Error}
use Rattle.error.specs.declared.cause.Error.TheVariants as code
use Rattle.error.specs.declared.fault.Fault.{Fault}
use Rattle.error.specs.declared.op.Op.{Op}
use Rattle.error.specs.declared.op.Op.TheVariants as op
use Rattle.error.specs.declared.said.Said.{Said}

-- ---- refusals
-- the code's case for each refusal of the rules. Of a list of twins it has the length
abbrev pub error_of : Refusal → Error
error_of (ImageLength n) = code.ImageLength n
error_of (WrongBlock b) = code.WrongBlock b
error_of (Schema v) = code.Schema v
error_of (WrongByte i) = code.WrongByte i
error_of (Short n) = code.Short n
error_of (EmptyId k) = code.EmptyId k
error_of (Duplicate k) = code.Duplicate k
error_of (Unknown i) = code.Unknown i
error_of (AffineDimensionMismatch k d) = code.AffineDimensionMismatch k d
error_of (NestedAffineSpace k d) = code.NestedAffineSpace k d
error_of (InvalidDimensionlessKind k) = code.InvalidDimensionlessKind k
error_of (InvalidTimeKind k) = code.InvalidTimeKind k
error_of (NoTimeKind k t) = code.NoTimeKind k t
error_of (PointRate k t p) = code.PointRate k t p
error_of (UnresolvedDimensions k) = code.UnresolvedDimensions k
error_of (RateMismatch x) = code.RateMismatch x.dims x.grade
error_of (AlsoRateOf k) = code.AlsoRateOf k
error_of (CommutativeQuotient i) = code.CommutativeQuotient i
error_of (Point l op r k) = code.Point l (code_of op) r k
error_of (Ungraded l r a b) = code.Ungraded l r a b
error_of (InvalidOperationRule x) = code.InvalidOperationRule x.dims x.grade
error_of (DerivedOperationRule k) = code.DerivedOperationRule k
error_of (ConflictingOperationRule l r) = code.ConflictingOperationRule l r
error_of (PowerOverLimits k) = code.PowerOverLimits k
error_of NoTable = code.NoTable
error_of (NoKind k) = code.NoKind k
error_of (KindMismatch x a) = code.KindMismatch x a
error_of (UnsupportedOperation c l r) = code.UnsupportedOperation c l r
error_of (UnresolvedTwin l op r ks) = code.UnresolvedTwin l (code_of op) r (length ks)
error_of (NoProductKind x) = code.NoProductKind x.dims x.grade
error_of (UngradedPower g) = code.UngradedPower g
error_of (NoPowerKind d) = code.NoPowerKind d
error_of (UnresolvedPowerTwin k e ks) = code.UnresolvedPowerTwin k e (length ks)
error_of (NumberTerm c k) = code.NumberTerm c k
error_of (Malformed p) = code.Malformed p

-- an error at a place, and the code's form of a refusal at its place
abbrev pub fault : ℕ → Error → Fault
fault p e = record { place = p; error = e }

abbrev pub fault_of : rule.Fault → Fault
fault_of x = fault x.place (error_of x.refusal)

-- ---- answers
module _ {A B : Type 0} where
  -- what is answered, where `tell` says how an A is told; or why it is refused
  abbrev pub replied : (A → B) → rule.Answer A → Result B Error
  replied tell (given a) = Ok (tell a)
  replied tell (refused x) = Err (error_of x)

  -- the same with the refusal's place
  abbrev pub shown : (A → B) → rule.Placed A → Result B Fault
  shown tell (given a) = Ok (tell a)
  shown tell (refused x) = Err (fault_of x)

-- what a check answers
unfoldable pub fine : rule.Placed (Unit {0}) → Result (Unit {0}) Fault
fine m = shown (λ u. u) m

-- ---- operations
abbrev pub op_as : arithmetic.Op → Op
op_as (arithmetic.summed arithmetic.Add) = op.Add
op_as (arithmetic.summed arithmetic.Sub) = op.Sub
op_as (arithmetic.multiplied o) = op.Product o

abbrev pub op_of : Op → arithmetic.Op
op_of op.Add = arithmetic.summed arithmetic.Add
op_of op.Sub = arithmetic.summed arithmetic.Sub
op_of (op.Product o) = arithmetic.multiplied o

-- ---- a refusal in 01's numbers; `said_told` says that they are those of the rules
abbrev pub says : ℕ → Option Dimensions → List ℕ → Said
says n d vs = record { number = n; dims = d; count = length vs; values = overlay vs (replicate 4 0) }

unfoldable pub said_of : Error → Said
said_of (code.ImageLength n) = says 1 None (n ∷ [])
said_of (code.WrongBlock b) = says 2 None (b ∷ [])
said_of (code.Schema v) = says 3 None (v ∷ [])
said_of (code.WrongByte i) = says 4 None (i ∷ [])
said_of (code.Short n) = says 5 None (n ∷ [])
said_of (code.EmptyId k) = says 10 None (k ∷ [])
said_of (code.Duplicate k) = says 11 None (k ∷ [])
said_of (code.Unknown i) = says 12 None (i ∷ [])
said_of (code.AffineDimensionMismatch k d) = says 13 None (k ∷ d ∷ [])
said_of (code.NestedAffineSpace k d) = says 14 None (k ∷ d ∷ [])
said_of (code.InvalidDimensionlessKind k) = says 15 None (k ∷ [])
said_of (code.InvalidTimeKind k) = says 16 None (k ∷ [])
said_of (code.NoTimeKind k t) = says 17 None (k ∷ t ∷ 65535 ∷ [])
said_of (code.PointRate k t p) = says 18 None (k ∷ t ∷ p ∷ [])
said_of (code.UnresolvedDimensions k) = says 19 None (k ∷ [])
said_of (code.RateMismatch d g) = says 20 (Some d) (g ∷ [])
said_of (code.AlsoRateOf k) = says 21 None (k ∷ [])
said_of (code.CommutativeQuotient i) = says 22 None (i ∷ [])
said_of (code.Point l op r k) = says 23 None (l ∷ op ∷ r ∷ k ∷ [])
said_of (code.Ungraded l r a b) = says 24 None (l ∷ r ∷ a ∷ b ∷ [])
said_of (code.InvalidOperationRule d g) = says 25 (Some d) (g ∷ [])
said_of (code.DerivedOperationRule k) = says 26 None (k ∷ [])
said_of (code.ConflictingOperationRule l r) = says 27 None (l ∷ r ∷ [])
said_of (code.PowerOverLimits k) = says 28 None (k ∷ [])
said_of code.NoTable = says 40 None (0 ∷ [])
said_of (code.NoKind k) = says 41 None (k ∷ [])
said_of (code.KindMismatch x a) = says 42 None (x ∷ a ∷ [])
said_of (code.UnsupportedOperation c l r) = says 43 None (c ∷ l ∷ r ∷ [])
said_of (code.UnresolvedTwin l op r n) = says 44 None (n ∷ [])
said_of (code.NoProductKind d g) = says 45 (Some d) (g ∷ [])
said_of (code.UngradedPower g) = says 46 None (g ∷ [])
said_of (code.NoPowerKind d) = says 47 (Some d) (0 ∷ [])
said_of (code.UnresolvedPowerTwin k e n) = says 48 None (n ∷ [])
said_of (code.NumberTerm c k) = says 49 None (c ∷ k ∷ [])
said_of (code.Malformed p) = says 50 None (p ∷ [])
