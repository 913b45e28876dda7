-- No row lifts what is refused by a rule that reads no row: of all refusals only 44 is lifted, and only a product is refused by it. Assumes nothing.
use Prim.Native.Nat.{ℕ}
use mathlib.Core.Path.{◌≡◌, refl, sym, ◌∙◌}
use mathlib.Core.Bool.{Bool, true, false, cond, not, true≢false}
use mathlib.Core.List.{List, [], ◌∷◌}
use Rattle.std.specs.declared.option.Option.{Option}
use Rattle.std.specs.declared.option.Option.TheVariants.{None, Some}
use lib.Dec.{ltb, eqb}
use Rattle.laws.specs.Out.{given, refused, ◌>>=◌, ◌>>◌, mapped, refuse_if, needed}
use Rattle.dimension.specs.Fraction as F
use Rattle.dimension.specs.Dimension as D
use Rattle.dimension.specs.declared.rational.Rational.{Rational}
use Rattle.dimension.specs.declared.grade.ProductOp.{ProductOp}
use Rattle.dimension.specs.declared.grade.ProductOp.TheVariants.{Mul, Div, Dot, Wedge}
use Rattle.rules.specs.Kinds.{Kinds, Rows, point}
use Rattle.rules.specs.Refusal.{Refusal, Answer, UnresolvedDimensions, Point, PowerOverLimits, NoKind, KindMismatch, UnsupportedOperation, UngradedPower, absent}
use Rattle.rules.specs.Arithmetic.{Sum, Add, Sub, summed, multiplied, indexed, operand, grade_by, graded, derive, or_fitting, settle, agree, sum_by, sum, scaled, neutral_power, raised, power}
use Rattle.rules.specs.Formula.{Unary, exact, inexact, absolute, Binary, combined, compared, Term, Number, Kind, with_number, one_kind, unary_term, kind_term}
use Rattle.guarantees.specs.Larger.{lifts}
use Rattle.guarantees.proofs.Grows.{GrownOut}

module _ (rows : Rows) where
  abbrev pub Calm : {A : Type 0} → Answer A → Type 0
  Calm (given a) = Unit {0}
  Calm (refused x) = lifts rows x ≡ false

  -- ---- rule by rule
  module _ {A B : Type 0} where
    pub calm_bind : (m : Answer A) (f : A → Answer B) → Calm m → ((a : A) → Calm (f a)) → Calm (m >>= f)
    calm_bind (given a) f h k = k a
    calm_bind (refused x) f h k = h

    pub calm_then : (m : Answer A) (n : Answer B) → Calm m → Calm n → Calm (m >> n)
    calm_then (given a) n h k = k
    calm_then (refused x) n h k = h

    pub calm_mapped : (f : A → B) (m : Answer A) → Calm m → Calm (mapped f m)
    calm_mapped f (given a) h = tt
    calm_mapped f (refused x) h = h

  module _ {A : Type 0} where
    calm_cond : (t : Bool) (m n : Answer A) → Calm m → Calm n → Calm (cond t m n)
    calm_cond true m n h k = h
    calm_cond false m n h k = k

    calm_needed : (o : Option A) (x : Refusal) → lifts rows x ≡ false → Calm (needed o x)
    calm_needed None x h = h
    calm_needed (Some a) x h = tt

    -- so it stays
    pub stays : (m : Answer A) → Calm m → GrownOut (lifts rows) m m
    stays (given a) h = refl
    stays (refused x) h = (λ p. refl, λ p. absurd (true≢false (sym p ∙ h)))

  calm_if : (t : Bool) (x : Refusal) → lifts rows x ≡ false → Calm (refuse_if t x)
  calm_if true x h = h
  calm_if false x h = tt

  calm_settle : (o : List ℕ) (x : Refusal) (f : List ℕ → Answer ℕ) → lifts rows x ≡ false → ((ks : List ℕ) → Calm (f ks)) → Calm (settle o (refused x) given f)
  calm_settle (k ∷ []) x f h c = tt
  calm_settle (k ∷ m ∷ ks) x f h c = c (k ∷ m ∷ ks)
  calm_settle [] x f h c = h

  -- ---- the rules that read no row
  module _ (K : Kinds) where
    operand_calm : (k : ℕ) → Calm (operand K k)
    unfolding operand
    operand_calm k = calm_needed (K.dims k) (UnresolvedDimensions k) refl

    pub derive_calm : (l : ℕ) (op : ProductOp) (r : ℕ) → Calm (derive K l op r)
    unfolding derive graded
    derive_calm l op r =
        calm_bind (operand K l) _ (operand_calm l)
        (λ a. calm_bind (operand K r) _ (operand_calm r)
        (λ b. calm_then (refuse_if (point K l) (Point l op r l)) _ (calm_if (point K l) (Point l op r l) refl)
        (calm_then (refuse_if (point K r) (Point l op r r)) _ (calm_if (point K r) (Point l op r r) refl)
        (calm_bind (graded K l op r) _ (calm_needed (grade_by K op (K.grade l) (K.grade r)) _ refl) (λ g. tt)))))

    pub agree_calm : (x y k : ℕ) → Calm (agree x y k)
    agree_calm x y k = calm_cond (eqb x y) (given k) (refused (KindMismatch x y)) tt refl

    pub sum_calm : (s : Sum) (l r : ℕ) → Calm (sum K s l r)
    unfolding sum sum_by
    sum_calm s l r = go s (K.difference l) (K.difference r)
      where
        go : (s : Sum) (d e : Option ℕ) → Calm (sum_by s d e l r)
        go Sub (Some d) (Some e) = agree_calm l r d
        go Add (Some d) (Some e) = refl
        go s (Some d) None = agree_calm d r l
        go Add None (Some e) = agree_calm e l r
        go Sub None (Some e) = refl
        go s None None = agree_calm l r l

    scaled_calm : (c k : ℕ) → Calm (scaled K c k)
    unfolding scaled
    scaled_calm c k = calm_then (refuse_if (point K k) (UnsupportedOperation c k absent)) (given k) (calm_if (point K k) (UnsupportedOperation c k absent) refl) tt

    raised_calm : (k : ℕ) (e : Rational) → Calm (raised K k e)
    unfolding raised
    raised_calm k e =
        calm_then (refuse_if (not (eqb (K.grade k) 0)) (UngradedPower (K.grade k))) _ (calm_if (not (eqb (K.grade k) 0)) (UngradedPower (K.grade k)) refl)
        (calm_bind (operand K k) _ (operand_calm k)
        (λ a. calm_bind (needed (D.power a e) (PowerOverLimits k)) _ (calm_needed (D.power a e) (PowerOverLimits k) refl)
        (λ d. calm_settle (or_fitting K (neutral_power K k e) (record { dims = d; grade = 0 })) _ _ refl (λ ks. refl))))

    power_calm : (c k : ℕ) (e : Option Rational) → Calm (power K c k e)
    unfolding power
    power_calm c k None = refl
    power_calm c k (Some e) = calm_then (scaled K c k) _ (scaled_calm c k) (calm_cond (F.is_one e) (given k) (raised K k e) tt (raised_calm k e))

    with_number_calm : (b : Binary) (k : ℕ) (m : Answer ℕ) → Calm m → Calm (with_number K b k m)
    unfolding with_number
    with_number_calm (combined (multiplied Mul)) k m h = scaled_calm 4 k
    with_number_calm (combined (multiplied Div)) k m h = h
    with_number_calm (combined (multiplied Dot)) k m h = refl
    with_number_calm (combined (multiplied Wedge)) k m h = refl
    with_number_calm (combined (summed s)) k m h = refl
    with_number_calm compared k m h = refl

    -- kind with number, number with kind
    pub by_number_calm : (b : Binary) (k : ℕ) → Calm (with_number K b k (scaled K 5 k))
    by_number_calm b k = with_number_calm b k (scaled K 5 k) (scaled_calm 5 k)

    pub number_by_calm : (b : Binary) (k : ℕ) (e : Rational) → Calm (with_number K b k (power K 5 k (Some e)))
    number_by_calm b k e = with_number_calm b k (power K 5 k (Some e)) (power_calm 5 k (Some e))

    one_kind_calm : (u : Unary) (k : ℕ) → Calm (one_kind K u k)
    unfolding one_kind
    one_kind_calm (exact e) k = power_calm 8 k (Some e)
    one_kind_calm inexact k = power_calm 9 k None
    one_kind_calm absolute k = scaled_calm 10 k

    pub unary_calm : (u : Unary) (t : Term) → Calm (unary_term K u t)
    unfolding unary_term
    unary_calm u Number = tt
    unary_calm u (Kind k) = calm_mapped Kind (one_kind K u k) (one_kind_calm u k)

    pub kind_calm : (k : ℕ) → Calm (kind_term K k)
    unfolding kind_term indexed
    kind_calm k = calm_then (indexed K k) (given (Kind k)) (calm_if (not (ltb k K.count)) (NoKind k) refl) tt
