-- "each refusal number arises for its cause and for no other". Assumes nothing.
use mathlib.Core.Path.{refl, sym, ◌∙◌, ap}
use Rattle.rules.specs.Refusal.{told, ImageLength, WrongBlock, Schema, WrongByte, Short, EmptyId, Duplicate, Unknown, AffineDimensionMismatch, NestedAffineSpace, InvalidDimensionlessKind, InvalidTimeKind, NoTimeKind, PointRate, UnresolvedDimensions, RateMismatch, AlsoRateOf, CommutativeQuotient, Point, Ungraded, InvalidOperationRule, DerivedOperationRule, ConflictingOperationRule, PowerOverLimits, NoTable, NoKind, KindMismatch, UnsupportedOperation, UnresolvedTwin, NoProductKind, UngradedPower, NoPowerKind, UnresolvedPowerTwin, NumberTerm, Malformed}
use Rattle.guarantees.specs.Causes.{cause_by, NumberTells, OneCause}
use Rattle.guarantees.proofs.Given.{agreed_some}

pub number_tells : NumberTells
unfolding told cause_by
number_tells (ImageLength n) = refl
number_tells (WrongBlock b) = refl
number_tells (Schema v) = refl
number_tells (WrongByte i) = refl
number_tells (Short n) = refl
number_tells (EmptyId k) = refl
number_tells (Duplicate k) = refl
number_tells (Unknown i) = refl
number_tells (AffineDimensionMismatch k d) = refl
number_tells (NestedAffineSpace k d) = refl
number_tells (InvalidDimensionlessKind k) = refl
number_tells (InvalidTimeKind k) = refl
number_tells (NoTimeKind k t) = refl
number_tells (PointRate k t p) = refl
number_tells (UnresolvedDimensions k) = refl
number_tells (RateMismatch x) = refl
number_tells (AlsoRateOf k) = refl
number_tells (CommutativeQuotient i) = refl
number_tells (Point l op r k) = refl
number_tells (Ungraded l r a b) = refl
number_tells (InvalidOperationRule x) = refl
number_tells (DerivedOperationRule k) = refl
number_tells (ConflictingOperationRule l r) = refl
number_tells (PowerOverLimits k) = refl
number_tells NoTable = refl
number_tells (NoKind k) = refl
number_tells (KindMismatch e a) = refl
number_tells (UnsupportedOperation c l r) = refl
number_tells (UnresolvedTwin l op r ks) = refl
number_tells (NoProductKind x) = refl
number_tells (UngradedPower g) = refl
number_tells (NoPowerKind d) = refl
number_tells (UnresolvedPowerTwin k e ks) = refl
number_tells (NumberTerm c k) = refl
number_tells (Malformed p) = refl

pub one_cause : OneCause
one_cause x y e = agreed_some (sym (ap cause_by e) ∙ number_tells x) (number_tells y)
