-- "each refusal number arises for its cause and for no other": what a refusal's number tells. proofs/Causes shows it of every refusal.
use Rattle.std.specs.Prelude.{ℕ, ◌≡◌, List, [], ◌∷◌, get_or}
use Rattle.std.specs.declared.option.Option.{Option}
use Rattle.std.specs.declared.option.Option.TheVariants.{None, Some}
use Rattle.rules.specs.Refusal.{Refusal, told}
use Rattle.rules.specs.Refusal as refusal

-- the causes of 01's table, each named as the refusal that has it, without what is returned
pub data Cause : Type 0 where
  -- 1 to 5: lent buffers and bytes
  ImageLength WrongBlock Schema WrongByte Short : Cause
  -- 10 to 28: kinds, rates, rows, powers
  EmptyId Duplicate Unknown AffineDimensionMismatch NestedAffineSpace InvalidDimensionlessKind InvalidTimeKind : Cause
  NoTimeKind PointRate UnresolvedDimensions RateMismatch AlsoRateOf : Cause
  CommutativeQuotient Point Ungraded InvalidOperationRule DerivedOperationRule ConflictingOperationRule PowerOverLimits : Cause
  -- 40 to 50: lookups and formulas
  NoTable NoKind KindMismatch UnsupportedOperation UnresolvedTwin NoProductKind : Cause
  UngradedPower NoPowerKind UnresolvedPowerTwin NumberTerm Malformed : Cause

abbrev pub cause_of : Refusal → Cause
cause_of (refusal.ImageLength n) = ImageLength
cause_of (refusal.WrongBlock b) = WrongBlock
cause_of (refusal.Schema v) = Schema
cause_of (refusal.WrongByte i) = WrongByte
cause_of (refusal.Short n) = Short
cause_of (refusal.EmptyId k) = EmptyId
cause_of (refusal.Duplicate k) = Duplicate
cause_of (refusal.Unknown i) = Unknown
cause_of (refusal.AffineDimensionMismatch k d) = AffineDimensionMismatch
cause_of (refusal.NestedAffineSpace k d) = NestedAffineSpace
cause_of (refusal.InvalidDimensionlessKind k) = InvalidDimensionlessKind
cause_of (refusal.InvalidTimeKind k) = InvalidTimeKind
cause_of (refusal.NoTimeKind k t) = NoTimeKind
cause_of (refusal.PointRate k t p) = PointRate
cause_of (refusal.UnresolvedDimensions k) = UnresolvedDimensions
cause_of (refusal.RateMismatch x) = RateMismatch
cause_of (refusal.AlsoRateOf k) = AlsoRateOf
cause_of (refusal.CommutativeQuotient i) = CommutativeQuotient
cause_of (refusal.Point l op r k) = Point
cause_of (refusal.Ungraded l r a b) = Ungraded
cause_of (refusal.InvalidOperationRule x) = InvalidOperationRule
cause_of (refusal.DerivedOperationRule k) = DerivedOperationRule
cause_of (refusal.ConflictingOperationRule l r) = ConflictingOperationRule
cause_of (refusal.PowerOverLimits k) = PowerOverLimits
cause_of refusal.NoTable = NoTable
cause_of (refusal.NoKind k) = NoKind
cause_of (refusal.KindMismatch e a) = KindMismatch
cause_of (refusal.UnsupportedOperation c l r) = UnsupportedOperation
cause_of (refusal.UnresolvedTwin l op r ks) = UnresolvedTwin
cause_of (refusal.NoProductKind x) = NoProductKind
cause_of (refusal.UngradedPower g) = UngradedPower
cause_of (refusal.NoPowerKind d) = NoPowerKind
cause_of (refusal.UnresolvedPowerTwin k e ks) = UnresolvedPowerTwin
cause_of (refusal.NumberTerm c k) = NumberTerm
cause_of (refusal.Malformed p) = Malformed

-- the cause that has this number
abbrev pub causes : List (Option Cause)
causes =
    None ∷ Some ImageLength ∷ Some WrongBlock ∷ Some Schema ∷ Some WrongByte ∷ Some Short ∷ None ∷ None ∷ None ∷ None
    ∷ Some EmptyId ∷ Some Duplicate ∷ Some Unknown ∷ Some AffineDimensionMismatch ∷ Some NestedAffineSpace
    ∷ Some InvalidDimensionlessKind ∷ Some InvalidTimeKind ∷ Some NoTimeKind ∷ Some PointRate ∷ Some UnresolvedDimensions
    ∷ Some RateMismatch ∷ Some AlsoRateOf ∷ Some CommutativeQuotient ∷ Some Point ∷ Some Ungraded
    ∷ Some InvalidOperationRule ∷ Some DerivedOperationRule ∷ Some ConflictingOperationRule ∷ Some PowerOverLimits ∷ None
    ∷ None ∷ None ∷ None ∷ None ∷ None ∷ None ∷ None ∷ None ∷ None ∷ None
    ∷ Some NoTable ∷ Some NoKind ∷ Some KindMismatch ∷ Some UnsupportedOperation ∷ Some UnresolvedTwin ∷ Some NoProductKind
    ∷ Some UngradedPower ∷ Some NoPowerKind ∷ Some UnresolvedPowerTwin ∷ Some NumberTerm ∷ Some Malformed ∷ []

unfoldable pub cause_by : ℕ → Option Cause
cause_by n = get_or causes n None

-- a number tells the cause, and two refusals with one number have one cause
abbrev pub NumberTells : Type 0
NumberTells = (x : Refusal) → cause_by (told x).number ≡ Some (cause_of x)

abbrev pub OneCause : Type 0
OneCause = (x y : Refusal) → (told x).number ≡ (told y).number → cause_of x ≡ cause_of y
