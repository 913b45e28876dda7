-- A refusal of a lookup names its twins: what is listed of the code's refusal are the twins that the rules' refusal has. Assumes nothing.
use Prim.Native.Nat.{ℕ}
use mathlib.Core.Path.{◌≡◌, refl, sym, ◌∙◌, ap}
use mathlib.Core.Bool.{Bool, true, false, cond, not, ◌&&◌}
use mathlib.Core.List.{List, [], ◌∷◌}
use Rattle.std.specs.declared.option.Option.{Option}
use Rattle.std.specs.declared.option.Option.TheVariants.{None, Some}
use lib.Dec.{ltb, eqb}
use lib.ListN.{length}
use Rattle.laws.specs.Options.{or_else}
use Rattle.laws.specs.Out.{given, refused, known, needed, refuse_if, ◌>>=◌, ◌>>◌}
use Rattle.dimension.specs.Fraction as F
use Rattle.dimension.specs.Dimension as D
use Rattle.dimension.specs.declared.rational.Rational.{Rational}
use Rattle.dimension.specs.declared.dimensions.Dimensions.{Dimensions}
use Rattle.dimension.specs.declared.grade.ProductOp.{ProductOp}
use Rattle.dimension.specs.declared.grade.ProductOp.TheVariants.{Mul, Div, Dot, Wedge}
use Rattle.rules.specs.Kinds.{Kinds, Rows, Graded, point, candidates}
use Rattle.rules.specs.Refusal as why
use Rattle.rules.specs.Refusal.{Refusal, Answer, Placed, told, twins_after, code_of}
use Rattle.rules.specs.Arithmetic as rule
use Rattle.rules.specs.Lookup as lone
use Rattle.rules.specs.Table.{is_table, are_rows}
use Rattle.error.specs.Shown.{error_of, shown}
use Rattle.fitting.specs.Shown.{at, room_listed}
use Rattle.derive.proofs.Resolves.{fitting_all}
use Rattle.lookup.specs.Shown.{op_by, named, name_of, fits_derived, twins_from, twins_of, lent, indexed_combine, indexed_power, power_by}
use Rattle.lookup.proofs.Listing.{list_none}

-- of an answer that is refused
abbrev pub Names : {A : Type 0} → Kinds → Answer A → Type 0
Names K (given k) = Unit {0}
Names K (refused x) = twins_of K (named (error_of x)) ≡ (told x).twins

-- ---- after a rule that names its twins, another
pub names_then : {A B : Type 0} (K : Kinds) (m : Answer A) (f : A → Answer B) → Names K m → ((a : A) → Names K (f a)) → Names K (m >>= f)
names_then K (given a) f p q = q a
names_then K (refused x) f p q = p

pub names_next : {A B : Type 0} (K : Kinds) (m : Answer A) (n : Answer B) → Names K m → Names K n → Names K (m >> n)
names_next K (given a) n p q = q
names_next K (refused x) n p q = p

-- ---- rules whose refusals have no twins
module _ (K : Kinds) where
  pub if_names : (b : Bool) (x : Refusal) → twins_of K (named (error_of x)) ≡ (told x).twins → Names K (refuse_if b x)
  if_names true x p = p
  if_names false x p = tt

  needed_names : {A : Type 0} (o : Option A) (x : Refusal) → twins_of K (named (error_of x)) ≡ (told x).twins → Names K (needed o x)
  needed_names (Some a) x p = tt
  needed_names None x p = p

  pub indexed_names : (k : ℕ) → Names K (rule.indexed K k)
  unfolding rule.indexed named twins_from twins_of told
  indexed_names k = if_names (not (ltb k K.count)) (why.NoKind k) refl

  operand_names : (k : ℕ) → Names K (rule.operand K k)
  unfolding rule.operand named twins_from twins_of told
  operand_names k = needed_names (K.dims k) (why.UnresolvedDimensions k) refl

  single_names : (g : Option ℕ) (l r a b : ℕ) → Names K (needed g (why.Ungraded l r a b))
  unfolding named twins_from twins_of told
  single_names (Some g) l r a b = tt
  single_names None l r a b = refl

  derive_names : (l : ℕ) (op : ProductOp) (r : ℕ) → Names K (rule.derive K l op r)
  unfolding rule.derive rule.graded named twins_from twins_of told
  derive_names l op r =
      names_then K (rule.operand K l) _ (operand_names l) (λ a.
      names_then K (rule.operand K r) _ (operand_names r) (λ b.
      names_next K (refuse_if (point K l) (why.Point l op r l)) _ (if_names (point K l) (why.Point l op r l) refl)
      (names_next K (refuse_if (point K r) (why.Point l op r r)) _ (if_names (point K r) (why.Point l op r r) refl)
      (names_then K (needed (rule.grade_by K op (K.grade l) (K.grade r)) (why.Ungraded l r (K.grade l) (K.grade r))) _ (single_names (rule.grade_by K op (K.grade l) (K.grade r)) l r (K.grade l) (K.grade r)) (λ g. tt)))))

  pub agree_names : (x a k : ℕ) → Names K (rule.agree x a k)
  unfolding named twins_from twins_of told
  agree_names x a k = go (eqb x a)
    where
      go : (b : Bool) → Names K (cond b (given k) (refused (why.KindMismatch x a)))
      go true = tt
      go false = refl

  sum_names : (s : rule.Sum) (l r : ℕ) → Names K (rule.sum K s l r)
  unfolding rule.sum rule.sum_by named twins_from twins_of told
  sum_names s l r = go s (K.difference l) (K.difference r)
    where
      go : (s : rule.Sum) (a b : Option ℕ) → Names K (rule.sum_by s a b l r)
      go rule.Sub (Some d) (Some e) = agree_names l r d
      go rule.Add (Some d) (Some e) = refl
      go rule.Sub (Some d) None = agree_names d r l
      go rule.Add (Some d) None = agree_names d r l
      go rule.Add None (Some e) = agree_names e l r
      go rule.Sub None (Some e) = refl
      go rule.Sub None None = agree_names l r l
      go rule.Add None None = agree_names l r l

-- ---- 44
op_back : (op : ProductOp) → op_by (code_of op) ≡ op
unfolding op_by
op_back Mul = refl
op_back Div = refl
op_back Dot = refl
op_back Wedge = refl

module _ (K : Kinds) (l : ℕ) (op : ProductOp) (r : ℕ) where
  fits_derived_law : (x : Graded) → rule.derive K l op r ≡ given x → fits_derived K l op r ≡ candidates K x
  unfolding fits_derived
  fits_derived_law x e = rw (fits_derived, e)

  settled_names : (R : Rows) (x : Graded) → rule.derive K l op r ≡ given x
      → Names K (rule.settle (rule.resolve K l op r x) (refused (why.NoProductKind x)) given (λ ks. known (R l op r) (refused (why.UnresolvedTwin l op r ks))))
  unfolding rule.resolve named twins_from twins_of told
  settled_names R x e = go (rule.or_fitting K (or_else (rule.neutral K l op r) (rule.rated K l op r)) x) refl (R l op r)
    where
      go : (m : List ℕ) → rule.or_fitting K (or_else (rule.neutral K l op r) (rule.rated K l op r)) x ≡ m → (o : Option ℕ)
          → Names K (rule.settle m (refused (why.NoProductKind x)) given (λ ks. known o (refused (why.UnresolvedTwin l op r ks))))
      go (k ∷ []) p o = tt
      go [] p o = refl
      go (j ∷ m ∷ ks) p (Some k) = tt
      go (j ∷ m ∷ ks) p None = ap (λ (q : ProductOp). fits_derived K l q r) (op_back op) ∙ fits_derived_law x e ∙ sym (fitting_all K (or_else (rule.neutral K l op r) (rule.rated K l op r)) x p)

  product_names : (R : Rows) → Names K (rule.product K R l op r)
  unfolding rule.product
  product_names R = go (rule.derive K l op r) refl (derive_names K l op r)
    where
      go : (m : Answer Graded) → rule.derive K l op r ≡ m → Names K m
          → Names K (m >>= λ x. rule.settle (rule.resolve K l op r x) (refused (why.NoProductKind x)) given (λ ks. known (R l op r) (refused (why.UnresolvedTwin l op r ks))))
      go (given x) p q = settled_names R x p
      go (refused x) p q = q

module _ (K : Kinds) (R : Rows) where
  pub combine_names : (op : rule.Op) (l r : ℕ) → Names K (rule.combine K R op l r)
  unfolding rule.combine
  combine_names (rule.summed s) l r = sum_names K s l r
  combine_names (rule.multiplied op) l r = product_names K l op r R

  pub combined_names : (code l r : ℕ) → Names K (indexed_combine K R code l r)
  unfolding indexed_combine named twins_from twins_of told
  combined_names code l r =
      names_then K (needed (rule.op_by code) (why.Malformed 0)) _ (needed_names K (rule.op_by code) (why.Malformed 0) refl) (λ op.
      names_next K (rule.indexed K l) _ (indexed_names K l) (names_next K (rule.indexed K r) _ (indexed_names K r) (combine_names op l r)))

-- ---- 48
module _ (K : Kinds) (k : ℕ) (e : Rational) where
  raised_names : Names K (rule.raised K k e)
  unfolding rule.raised rule.operand named twins_from twins_of told
  raised_names =
      names_next K (refuse_if (not (eqb (K.grade k) 0)) (why.UngradedPower (K.grade k))) _ (if_names K (not (eqb (K.grade k) 0)) (why.UngradedPower (K.grade k)) refl)
      (go (K.dims k) refl)
    where
      settled : (d x : Dimensions) (m : List ℕ) → K.dims k ≡ Some d → D.power d e ≡ Some x → rule.or_fitting K (rule.neutral_power K k e) (at x 0) ≡ m
          → Names K (rule.settle m (refused (why.NoPowerKind x)) given (λ ks. refused (why.UnresolvedPowerTwin k e ks)))
      settled d x (j ∷ []) p q s = tt
      settled d x [] p q s = refl
      settled d x (j ∷ m ∷ ks) p q s = rw (p, q) (sym (fitting_all K (rule.neutral_power K k e) (at x 0) s))

      by_power : (d : Dimensions) (o : Option Dimensions) → K.dims k ≡ Some d → D.power d e ≡ o
          → Names K (needed o (why.PowerOverLimits k) >>= λ x. rule.settle (rule.or_fitting K (rule.neutral_power K k e) (record { dims = x; grade = 0 })) (refused (why.NoPowerKind x)) given (λ ks. refused (why.UnresolvedPowerTwin k e ks)))
      by_power d None p q = refl
      by_power d (Some x) p q = settled d x _ p q refl

      go : (o : Option Dimensions) → K.dims k ≡ o
          → Names K (needed o (why.UnresolvedDimensions k) >>= λ a. needed (D.power a e) (why.PowerOverLimits k) >>= λ x. rule.settle (rule.or_fitting K (rule.neutral_power K k e) (record { dims = x; grade = 0 })) (refused (why.NoPowerKind x)) given (λ ks. refused (why.UnresolvedPowerTwin k e ks)))
      go None p = refl
      go (Some d) p = by_power d (D.power d e) p refl

module _ (K : Kinds) where
  pub power_names : (code k : ℕ) (o : Option Rational) → Names K (rule.power K code k o)
  unfolding rule.power rule.scaled named twins_from twins_of told
  power_names code k None = refl
  power_names code k (Some e) =
      names_next K (refuse_if (point K k) (why.UnsupportedOperation code k 65535) >> given k) _ (names_next K (refuse_if (point K k) (why.UnsupportedOperation code k 65535)) _ (if_names K (point K k) (why.UnsupportedOperation code k 65535) refl) tt) (go (F.is_one e))
    where
      go : (b : Bool) → Names K (cond b (given k) (rule.raised K k e))
      go true = tt
      go false = raised_names K k e

  pub powered_names : (k : ℕ) (x : lone.Exponent) → Names K (power_by K k x)
  unfolding power_by indexed_power named twins_from twins_of told
  powered_names k lone.inexact = names_next K (rule.indexed K k) _ (indexed_names K k) (power_names 9 k None)
  powered_names k (lone.exact n d) = go (F.answer n d)
    where
      go : (u : Option Rational) → Names K (elim u [ Some e ↦ given (Some e) | None ↦ refused (why.Malformed 0) ] >>= λ e. rule.indexed K k >> rule.power K 8 k e)
      go (Some e) = names_next K (rule.indexed K k) _ (indexed_names K k) (power_names 8 k (Some e))
      go None = refl

-- ---- so the lent list is as the rules say
abbrev pub PlacedNames : {A : Type 0} → Kinds → Placed A → Type 0
PlacedNames K (given a) = Unit {0}
PlacedNames K (refused x) = twins_of K (named (error_of x.refusal)) ≡ (told x.refusal).twins

pub placed_names : {A : Type 0} (K : Kinds) (m : Answer A) → Names K m → PlacedNames K (why.at 0 m)
placed_names K (given a) p = p
placed_names K (refused x) p = p

module _ {A B : Type 0} (tell : A → B) (K : Kinds) (old : List ℕ) where
  listed_after : (m : Placed A) {new : List ℕ} → ltb (length old) 240 ≡ false → PlacedNames K m → new ≡ room_listed (twins_of K (name_of (shown tell m))) old → new ≡ twins_after m old
  unfolding name_of twins_of room_listed twins_after
  listed_after (given a) h p e = rw h at e
  listed_after (refused x) h p e = rw (h, p) at e

  -- after 5 and 40, which have no twins
  pub lent_after : (t rows : List ℕ) (m : Placed A) {new : List ℕ} → PlacedNames K m → new ≡ room_listed (twins_of K (name_of (shown tell (why.at 0 (lent t rows old) >> m)))) old
      → new ≡ twins_after (why.at 0 (lent t rows old) >> m) old
  unfolding lent lone.roomy lone.tabled name_of named twins_of twins_after told
  lent_after t rows m {new} n e = go (ltb (length t) 9296) refl (ltb (length old) 240) refl (is_table t && are_rows t rows) refl
    where
      go : (a : Bool) → ltb (length t) 9296 ≡ a → (b : Bool) → ltb (length old) 240 ≡ b → (c : Bool) → (is_table t && are_rows t rows) ≡ c → new ≡ twins_after (why.at 0 (lent t rows old) >> m) old
      go true p b q c s = rw p ((rw p at e) ∙ sym (list_none old))
      go false p true q c s = rw (p, q) ((rw (p, q) at e) ∙ sym (list_none old))
      go false p false q false s = rw (p, q, s) ((rw (p, q, s) at e) ∙ sym (list_none old))
      go false p false q true s = rw (p, q, s) (listed_after m q n (rw (p, q, s) at e))
