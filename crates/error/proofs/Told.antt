-- The code's numbers are those of the rules: whatever refusal of the rules a case of code stands for, it has that refusal's number, and returns the same dimensions and values.
use mathlib.Core.Path.{◌≡◌, refl}
use Rattle.rules.specs.Refusal.{Refusal, told, ImageLength, WrongBlock, Schema, WrongByte, Short, EmptyId, Duplicate, Unknown, AffineDimensionMismatch, NestedAffineSpace, InvalidDimensionlessKind, InvalidTimeKind, NoTimeKind, PointRate, UnresolvedDimensions, RateMismatch, AlsoRateOf, CommutativeQuotient, Point, Ungraded, InvalidOperationRule, DerivedOperationRule, ConflictingOperationRule, PowerOverLimits, NoTable, NoKind, KindMismatch, UnsupportedOperation, UnresolvedTwin, NoProductKind, UngradedPower, NoPowerKind, UnresolvedPowerTwin, NumberTerm, Malformed}
use Rattle.error.specs.Shown.{error_of, says, said_of}

pub said_told : (x : Refusal) → said_of (error_of x) ≡ says (told x).number (told x).dims (told x).values
unfolding told said_of
said_told (ImageLength n) = refl
said_told (WrongBlock b) = refl
said_told (Schema v) = refl
said_told (WrongByte i) = refl
said_told (Short n) = refl
said_told (EmptyId k) = refl
said_told (Duplicate k) = refl
said_told (Unknown i) = refl
said_told (AffineDimensionMismatch k d) = refl
said_told (NestedAffineSpace k d) = refl
said_told (InvalidDimensionlessKind k) = refl
said_told (InvalidTimeKind k) = refl
said_told (NoTimeKind k t) = refl
said_told (PointRate k t p) = refl
said_told (UnresolvedDimensions k) = refl
said_told (RateMismatch x) = refl
said_told (AlsoRateOf k) = refl
said_told (CommutativeQuotient i) = refl
said_told (Point l op r k) = refl
said_told (Ungraded l r a b) = refl
said_told (InvalidOperationRule x) = refl
said_told (DerivedOperationRule k) = refl
said_told (ConflictingOperationRule l r) = refl
said_told (PowerOverLimits k) = refl
said_told NoTable = refl
said_told (NoKind k) = refl
said_told (KindMismatch x a) = refl
said_told (UnsupportedOperation c l r) = refl
said_told (UnresolvedTwin l op r ks) = refl
said_told (NoProductKind x) = refl
said_told (UngradedPower g) = refl
said_told (NoPowerKind d) = refl
said_told (UnresolvedPowerTwin k e ks) = refl
said_told (NumberTerm c k) = refl
said_told (Malformed p) = refl
