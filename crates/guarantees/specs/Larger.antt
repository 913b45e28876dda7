-- Rows added: what a larger catalog has, and which refusals it lifts.
use Rattle.std.specs.Prelude.{ℕ, ◌≡◌, Bool, false}
use Rattle.std.specs.declared.option.Option.TheVariants.{Some}
use Rattle.laws.specs.Options.{is_some}
use Rattle.dimension.specs.declared.grade.ProductOp.{ProductOp}
use Rattle.rules.specs.Kinds.{Rows}
use Rattle.rules.specs.Refusal.{Refusal, ImageLength, WrongBlock, Schema, WrongByte, Short, EmptyId, Duplicate, Unknown, InvalidDimensionlessKind, InvalidTimeKind, AlsoRateOf, CommutativeQuotient, DerivedOperationRule, AffineDimensionMismatch, NestedAffineSpace, NoTimeKind, ConflictingOperationRule, PointRate, RateMismatch, InvalidOperationRule, UnresolvedDimensions, Point, Ungraded, NoProductKind, PowerOverLimits, UngradedPower, NoPowerKind, UnresolvedTwin, UnresolvedPowerTwin, NoTable, NoKind, Malformed, KindMismatch, NumberTerm, UnsupportedOperation}

-- "the larger has every row of the smaller": every kind that the smaller's rows name, the larger's name too
abbrev pub Extends : Rows → Rows → Type 0
Extends small large = (l : ℕ) (op : ProductOp) (r k : ℕ) → small l op r ≡ Some k → large l op r ≡ Some k

-- "An "unresolved twin" is lifted at its token exactly when the larger catalog has a row for that very left, operation and right", and no other
-- refusal is
abbrev pub lifts : Rows → Refusal → Bool
lifts rows (UnresolvedTwin l op r ks) = is_some (rows l op r)
lifts rows (ImageLength a) = false
lifts rows (WrongBlock a) = false
lifts rows (Schema a) = false
lifts rows (WrongByte a) = false
lifts rows (Short a) = false
lifts rows (EmptyId a) = false
lifts rows (Duplicate a) = false
lifts rows (Unknown a) = false
lifts rows (InvalidDimensionlessKind a) = false
lifts rows (InvalidTimeKind a) = false
lifts rows (AlsoRateOf a) = false
lifts rows (CommutativeQuotient a) = false
lifts rows (DerivedOperationRule a) = false
lifts rows (AffineDimensionMismatch a b) = false
lifts rows (NestedAffineSpace a b) = false
lifts rows (NoTimeKind a b) = false
lifts rows (ConflictingOperationRule a b) = false
lifts rows (PointRate a b c) = false
lifts rows (RateMismatch a) = false
lifts rows (InvalidOperationRule a) = false
lifts rows (UnresolvedDimensions a) = false
lifts rows (Point a b c d) = false
lifts rows (Ungraded a b c d) = false
lifts rows (NoProductKind a) = false
lifts rows (PowerOverLimits a) = false
lifts rows (UngradedPower a) = false
lifts rows (NoPowerKind a) = false
lifts rows (UnresolvedPowerTwin a b c) = false
lifts rows NoTable = false
lifts rows (NoKind a) = false
lifts rows (Malformed a) = false
lifts rows (KindMismatch a b) = false
lifts rows (NumberTerm a b) = false
lifts rows (UnsupportedOperation a b c) = false
