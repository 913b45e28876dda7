-- Why something is refused: a case for each cause of 01's table, with all that is returned; its number, values and twin list.
use Rattle.std.specs.Prelude.{ℕ, ◌+◌, List, [], ◌∷◌, length}
use Rattle.std.specs.declared.option.Option.{Option}
use Rattle.std.specs.declared.option.Option.TheVariants.{None, Some}
use Rattle.laws.specs.Out.{Out, given, refused}
use Rattle.laws.specs.Ranges.{overlay}
use Rattle.dimension.specs.declared.rational.Rational.{Rational}
use Rattle.dimension.specs.declared.dimensions.Dimensions.{Dimensions}
use Rattle.dimension.specs.declared.grade.ProductOp.{ProductOp}
use Rattle.rules.specs.Kinds.{Graded, op_word}

-- the causes, each with what it returns
pub data Refusal : Type 0 where
  -- lent buffers and bytes
  ImageLength WrongBlock Schema WrongByte Short : ℕ → Refusal
  -- compilation
  EmptyId Duplicate Unknown InvalidDimensionlessKind InvalidTimeKind AlsoRateOf CommutativeQuotient DerivedOperationRule : ℕ → Refusal
  AffineDimensionMismatch NestedAffineSpace NoTimeKind ConflictingOperationRule : ℕ → ℕ → Refusal
  PointRate : ℕ → ℕ → ℕ → Refusal
  RateMismatch InvalidOperationRule : Graded → Refusal
  -- products and powers
  UnresolvedDimensions : ℕ → Refusal
  Point : ℕ → ProductOp → ℕ → ℕ → Refusal
  Ungraded : ℕ → ℕ → ℕ → ℕ → Refusal
  NoProductKind : Graded → Refusal
  PowerOverLimits UngradedPower : ℕ → Refusal
  NoPowerKind : Dimensions → Refusal
  -- of this left, operation and right, and of this base and exponent, the kinds that fit
  UnresolvedTwin : ℕ → ProductOp → ℕ → List ℕ → Refusal
  UnresolvedPowerTwin : ℕ → Rational → List ℕ → Refusal
  -- lookups and formulas
  NoTable : Refusal
  NoKind Malformed : ℕ → Refusal
  KindMismatch NumberTerm : ℕ → ℕ → Refusal
  UnsupportedOperation : ℕ → ℕ → ℕ → Refusal

-- "An operation is returned as the code of its token, for rows and lone lookups too (Mul is 4)"
abbrev pub code_of : ProductOp → ℕ
code_of op = 4 + op_word op

-- "a kind that isn't there as 65,535"
abbrev pub absent : ℕ
absent = 65535

-- 01's table. Dimensions, where they are returned, come before the values; the twins are what the twin list's first entries become
abbrev pub Told : Type 0
Told = record { number : ℕ; dims : Option Dimensions; values : List ℕ; twins : List ℕ }

-- a line of 01's table: number and values; with dimensions; with twins, whose count is returned
abbrev says : ℕ → List ℕ → Told
says n vs = record { number = n; dims = None; values = vs; twins = [] }

abbrev says_dims : ℕ → Dimensions → ℕ → Told
says_dims n d g = record { number = n; dims = Some d; values = g ∷ []; twins = [] }

abbrev says_twins : ℕ → List ℕ → Told
says_twins n ks = record { number = n; dims = None; values = length ks ∷ []; twins = ks }

-- "No." and "Returned", cause by cause
unfoldable pub told : Refusal → Told
told (ImageLength n) = says 1 (n ∷ [])
told (WrongBlock b) = says 2 (b ∷ [])
told (Schema v) = says 3 (v ∷ [])
told (WrongByte i) = says 4 (i ∷ [])
told (Short n) = says 5 (n ∷ [])
told (EmptyId k) = says 10 (k ∷ [])
told (Duplicate k) = says 11 (k ∷ [])
told (Unknown i) = says 12 (i ∷ [])
told (AffineDimensionMismatch k d) = says 13 (k ∷ d ∷ [])
told (NestedAffineSpace k d) = says 14 (k ∷ d ∷ [])
told (InvalidDimensionlessKind k) = says 15 (k ∷ [])
told (InvalidTimeKind k) = says 16 (k ∷ [])
told (NoTimeKind k t) = says 17 (k ∷ t ∷ absent ∷ [])
told (PointRate k t p) = says 18 (k ∷ t ∷ p ∷ [])
told (UnresolvedDimensions k) = says 19 (k ∷ [])
told (RateMismatch x) = says_dims 20 x.dims x.grade
told (AlsoRateOf k) = says 21 (k ∷ [])
told (CommutativeQuotient i) = says 22 (i ∷ [])
told (Point l op r k) = says 23 (l ∷ code_of op ∷ r ∷ k ∷ [])
told (Ungraded l r a b) = says 24 (l ∷ r ∷ a ∷ b ∷ [])
told (InvalidOperationRule x) = says_dims 25 x.dims x.grade
told (DerivedOperationRule k) = says 26 (k ∷ [])
told (ConflictingOperationRule l r) = says 27 (l ∷ r ∷ [])
told (PowerOverLimits k) = says 28 (k ∷ [])
told NoTable = says 40 (0 ∷ [])
told (NoKind k) = says 41 (k ∷ [])
told (KindMismatch e a) = says 42 (e ∷ a ∷ [])
told (UnsupportedOperation c l r) = says 43 (c ∷ l ∷ r ∷ [])
told (UnresolvedTwin l op r ks) = says_twins 44 ks
told (NoProductKind x) = says_dims 45 x.dims x.grade
told (UngradedPower g) = says 46 (g ∷ [])
told (NoPowerKind d) = says_dims 47 d 0
told (UnresolvedPowerTwin k e ks) = says_twins 48 ks
told (NumberTerm c k) = says 49 (c ∷ k ∷ [])
told (Malformed p) = says 50 (p ∷ [])

-- what gives an A or is refused
abbrev pub Answer : Type 0 → Type 0
Answer A = Out Refusal A

-- "Every refusal carries its place, from 0"
abbrev pub Fault : Type 0
Fault = record { place : ℕ; refusal : Refusal }

-- what gives an A, or is refused at a place
abbrev pub Placed : Type 0 → Type 0
Placed A = Out Fault A

-- a rule's refusal, placed
abbrev pub at : {A : Type 0} → ℕ → Answer A → Placed A
at p m = elim m [ given a ↦ given a | refused x ↦ refused (record { place = p; refusal = x }) ]

-- what the twin list then holds: "all but the first count twin entries" stay
unfoldable pub twins_after : {A : Type 0} → Placed A → List ℕ → List ℕ
twins_after m old = elim m [ given a ↦ old | refused x ↦ overlay (told x.refusal).twins old ]
