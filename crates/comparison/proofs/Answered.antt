-- What an answer tells of the rules' answer: a term, or a refusal, its place and which one. Assumes nothing.
use Prim.Native.Nat.{ℕ}
use mathlib.Core.Path.{◌≡◌, refl, sym, ◌∙◌, ap, ap₂}
use mathlib.Core.Bool.{Bool, true, false, true≢false}
use mathlib.Core.List.{List}
use native.Mathlib.Omega.{arith}
use lib.Dec.{eqb}
use lib.ListN.{length}
use borrow.Author.Tests.{eq-eqb}
use Rattle.std.specs.declared.result.Result.TheVariants.{Ok, Err}
use Rattle.laws.specs.Options.{is_some}
use Rattle.laws.specs.Out.{given, refused}
use Rattle.dimension.specs.declared.dimensions.Dimensions.{Dimensions}
use Rattle.dimension.specs.declared.grade.ProductOp.{ProductOp}
use Rattle.rules.specs.Kinds.{Rows, Graded, op_word}
use Rattle.rules.specs.Refusal.{Refusal, Placed, told, code_of, ImageLength, WrongBlock, Schema, WrongByte, Short, EmptyId, Duplicate, Unknown, AffineDimensionMismatch, NestedAffineSpace, InvalidDimensionlessKind, InvalidTimeKind, NoTimeKind, PointRate, UnresolvedDimensions, RateMismatch, AlsoRateOf, CommutativeQuotient, Point, Ungraded, InvalidOperationRule, DerivedOperationRule, ConflictingOperationRule, PowerOverLimits, NoTable, NoKind, KindMismatch, UnsupportedOperation, UnresolvedTwin, NoProductKind, UngradedPower, NoPowerKind, UnresolvedPowerTwin, NumberTerm, Malformed}
use Rattle.rules.specs.Formula as rule
use Rattle.guarantees.specs.Larger.{lifts}
use Rattle.guarantees.specs.Calls as by_rules
use Rattle.guarantees.proofs.RowRules.{same_op_law}
use Rattle.error.specs.Shown.{error_of, fault, fault_of, said_of}
use Rattle.error.specs.declared.cause.Error.{Error}
use Rattle.error.specs.declared.cause.Error.TheVariants as code
use Rattle.error.specs.declared.fault.Fault.{Fault}
use Rattle.formula.specs.Shown.{term_as, termed}
use Rattle.comparison.specs.Returned.{Lifted, no_kind_answer}
use Rattle.comparison.proofs.Said.{same_number}

-- ---- which refusal: 44, 45 or another, which no row lifts
data Which (x : Refusal) : Type 0 where
  twin : (l : ℕ) (op : ProductOp) (r : ℕ) (ks : List ℕ) → x ≡ UnresolvedTwin l op r ks → Which x
  no_product : (y : Graded) → x ≡ NoProductKind y → Which x
  other : eqb (told x).number 44 ≡ false → eqb (told x).number 45 ≡ false → ((rows : Rows) → lifts rows x ≡ false) → Which x

which : (x : Refusal) → Which x
unfolding told
which (ImageLength n) = other refl refl (λ rows. refl)
which (WrongBlock b) = other refl refl (λ rows. refl)
which (Schema v) = other refl refl (λ rows. refl)
which (WrongByte i) = other refl refl (λ rows. refl)
which (Short n) = other refl refl (λ rows. refl)
which (EmptyId k) = other refl refl (λ rows. refl)
which (Duplicate k) = other refl refl (λ rows. refl)
which (Unknown i) = other refl refl (λ rows. refl)
which (AffineDimensionMismatch k d) = other refl refl (λ rows. refl)
which (NestedAffineSpace k d) = other refl refl (λ rows. refl)
which (InvalidDimensionlessKind k) = other refl refl (λ rows. refl)
which (InvalidTimeKind k) = other refl refl (λ rows. refl)
which (NoTimeKind k t) = other refl refl (λ rows. refl)
which (PointRate k t p) = other refl refl (λ rows. refl)
which (UnresolvedDimensions k) = other refl refl (λ rows. refl)
which (RateMismatch x) = other refl refl (λ rows. refl)
which (AlsoRateOf k) = other refl refl (λ rows. refl)
which (CommutativeQuotient i) = other refl refl (λ rows. refl)
which (Point l op r k) = other refl refl (λ rows. refl)
which (Ungraded l r a b) = other refl refl (λ rows. refl)
which (InvalidOperationRule x) = other refl refl (λ rows. refl)
which (DerivedOperationRule k) = other refl refl (λ rows. refl)
which (ConflictingOperationRule l r) = other refl refl (λ rows. refl)
which (PowerOverLimits k) = other refl refl (λ rows. refl)
which NoTable = other refl refl (λ rows. refl)
which (NoKind k) = other refl refl (λ rows. refl)
which (KindMismatch e a) = other refl refl (λ rows. refl)
which (UnsupportedOperation c l r) = other refl refl (λ rows. refl)
which (UnresolvedTwin l op r ks) = twin l op r ks refl
which (NoProductKind x) = no_product x refl
which (UngradedPower g) = other refl refl (λ rows. refl)
which (NoPowerKind d) = other refl refl (λ rows. refl)
which (UnresolvedPowerTwin k e ks) = other refl refl (λ rows. refl)
which (NumberTerm c k) = other refl refl (λ rows. refl)
which (Malformed p) = other refl refl (λ rows. refl)

-- ---- a term, or a refusal at its place
pub term_given : (m : Placed rule.Term) (x : rule.Term) → termed m ≡ Ok (term_as x) → m ≡ given x
unfolding termed
term_given (given rule.Number) rule.Number e = refl
term_given (given rule.Number) (rule.Kind k) e = cc
term_given (given (rule.Kind j)) rule.Number e = cc
term_given (given (rule.Kind j)) (rule.Kind k) e = cc
term_given (refused f) x e = cc

pub error_given : (m : Placed rule.Term) (p : ℕ) (e : Error) → termed m ≡ Err (fault p e) → (x : Refusal) × (m ≡ refused (by_rules.fault p x)) × (error_of x ≡ e)
unfolding termed
error_given (given x) p e q = let z : true ≡ false = cc in absurd (true≢false z)
error_given (refused f) p e q =
    let z : fault_of f ≡ fault p e = cc in
    (f.refusal, ap (λ (x : Fault). refused (by_rules.fault x.place f.refusal)) z, ap (λ (x : Fault). x.error) z)

-- ---- the refusals
-- of another number
apart : (x : Refusal) (e : Error) (n : ℕ) → error_of x ≡ e → (said_of e).number ≡ n → eqb (told x).number n ≡ false → eqb n n ≡ true → ⊥
apart x e n p q r t =
    let z : (told x).number ≡ n = sym (same_number x) ∙ ap (λ (d : Error). (said_of d).number) p ∙ q in
    let w : eqb n n ≡ false = rw z at r in
    true≢false (sym t ∙ w)

code_one : (a b : ProductOp) → code_of a ≡ code_of b → a ≡ b
code_one a b e = same_op_law a b (eq-eqb (op_word a) (op_word b) (omega arith))

-- 44
pub twin_given : (x : Refusal) (l : ℕ) (op : ProductOp) (r n : ℕ) → error_of x ≡ code.UnresolvedTwin l (code_of op) r n → (ks : List ℕ) × (x ≡ UnresolvedTwin l op r ks)
unfolding said_of
twin_given x l op r n e = go (which x)
  where
    go : Which x → (ks : List ℕ) × (x ≡ UnresolvedTwin l op r ks)
    go (twin a o b ks p) =
        let z : code.UnresolvedTwin a (code_of o) b (length ks) ≡ code.UnresolvedTwin l (code_of op) r n = rw p at e in
        let u : a ≡ l = cc in
        let v : code_of o ≡ code_of op = cc in
        let w : b ≡ r = cc in
        (ks, p ∙ rw (u, code_one o op v, w))
    go (no_product y p) = let z : code.NoProductKind y.dims y.grade ≡ code.UnresolvedTwin l (code_of op) r n = rw p at e in let w : true ≡ false = cc in absurd (true≢false w)
    go (other p q f) = absurd (apart x _ 44 e refl p refl)

-- a refusal that rows do not lift
pub unlifted : (rows : Rows) (x : Refusal) → (Lifted rows (error_of x) → ⊥) → lifts rows x ≡ false
unlifted rows x n = go (which x)
  where
    there : (l : ℕ) (op : ProductOp) (r : ℕ) (ks : List ℕ) → x ≡ UnresolvedTwin l op r ks → (t : Bool) → is_some (rows l op r) ≡ t → t ≡ false
    there l op r ks p false q = refl
    there l op r ks p true q = absurd (n (record { left = l; op = op; right = r; count = length ks; is_twin = ap error_of p; has_row = q }))

    go : Which x → lifts rows x ≡ false
    go (twin l op r ks p) = rw p (there l op r ks p (is_some (rows l op r)) refl)
    go (no_product y p) = rw p
    go (other p q f) = f rows

-- 45
pub no_kind_given : (m : Placed rule.Term) (p : ℕ) (y : Graded) → termed m ≡ no_kind_answer p y → m ≡ refused (by_rules.fault p (NoProductKind y))
unfolding said_of
no_kind_given m p y e = at (error_given m p _ e)
  where
    at : (x : Refusal) × (m ≡ refused (by_rules.fault p x)) × (error_of x ≡ code.NoProductKind y.dims y.grade) → m ≡ refused (by_rules.fault p (NoProductKind y))
    at (x, q, h) = q ∙ ap (λ (z : Refusal). refused (by_rules.fault p z)) (go (which x))
      where
        go : Which x → x ≡ NoProductKind y
        go (twin l op r ks u) = let z : code.UnresolvedTwin l (code_of op) r (length ks) ≡ code.NoProductKind y.dims y.grade = rw u at h in let w : true ≡ false = cc in absurd (true≢false w)
        go (no_product g u) =
            let z : code.NoProductKind g.dims g.grade ≡ code.NoProductKind y.dims y.grade = rw u at h in
            let d : g.dims ≡ y.dims = cc in
            let k : g.grade ≡ y.grade = cc in
            let v : g ≡ y = ap₂ (λ (a : Dimensions) (b : ℕ). record { dims = a; grade = b }) d k in
            u ∙ ap NoProductKind v
        go (other u v w) = absurd (apart x _ 45 h refl v refl)
