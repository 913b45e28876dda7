-- A derivation in code: what it tells of the rules', and how early returns meet them, one law a return (`derives`). Assumes
-- nothing.
use Prim.Native.Nat.{ℕ}
use mathlib.Core.Path.{◌≡◌, refl, sym, ◌∙◌, ap}
use mathlib.Core.Bool.{Bool, true, false, true≢false, not}
use Rattle.std.specs.declared.option.Option.{Option}
use Rattle.std.specs.declared.result.Result.{Result}
use Rattle.std.specs.declared.result.Result.TheVariants.{Ok, Err}
use Rattle.std.specs.declared.option.Option.TheVariants.{None, Some}
use borrow.Author.Tests.{not-true, not-false}
use Rattle.laws.specs.Options.{found, is_some}
use Rattle.laws.specs.Out.{given, refused}
use Rattle.dimension.specs.Dimension as D
use Rattle.dimension.specs.declared.dimensions.Dimensions.{Dimensions}
use Rattle.dimension.specs.declared.grade.ProductOp.{ProductOp}
use Rattle.rules.specs.Kinds.{Kinds, Graded, point}
use Rattle.rules.specs.Refusal as why
use Rattle.rules.specs.Refusal.{Refusal, Answer, told, code_of}
use Rattle.rules.specs.Arithmetic as rule
use Rattle.error.specs.Shown.{error_of}
use Rattle.error.specs.declared.cause.Error.{Error}
use Rattle.error.specs.declared.cause.Error.TheVariants as cause
use Rattle.fitting.specs.Shown.{at}
use Rattle.derive.specs.Shown.{ruled_as, derived}
use Rattle.joined.specs.Shown.{dims_at}
use Rattle.derive.specs.declared.derivation.Graded as derivation

-- ---- told: v is what a call returned
module _ {v : Result derivation.Graded Error} (m : Answer Graded) where
  pub given_told : {x : derivation.Graded} → v ≡ Ok x → v ≡ derived m → m ≡ given (at x.dims x.grade)
  given_told {x} p e = go m e
    where
      go : (a : Answer Graded) → v ≡ derived a → a ≡ given (at x.dims x.grade)
      go (given y) q =
          let z : Ok (record { dims = y.dims; grade = y.grade }) ≡ Ok x = sym q ∙ p in
          let w : record { dims = y.dims; grade = y.grade } ≡ x = cc in
          ap (λ (u : derivation.Graded). given (at u.dims u.grade)) w
      go (refused y) q = cc

  pub refused_told : {e : Error} → v ≡ Err e → v ≡ derived m → (x : Refusal) × (m ≡ refused x) × (e ≡ error_of x)
  refused_told {e} p q = go m q
    where
      go : (a : Answer Graded) → v ≡ derived a → (x : Refusal) × (a ≡ refused x) × (e ≡ error_of x)
      go (given x) z = let y : true ≡ false = cc in absurd (true≢false y)
      go (refused x) z = (x, refl, cc)

-- ---- whether there is something: b says it
pub is_none : {A : Type 0} (o : Option A) {b : Bool} → b ≡ is_some o → not b ≡ true → o ≡ None
is_none (Some a) {b} e p = let z : b ≡ false = not-true b p in cc
is_none None e p = refl

pub is_some_law : {A : Type 0} (o : Option A) (z : A) {b : Bool} → b ≡ is_some o → not b ≡ false → o ≡ Some (found o (λ d. d) z)
is_some_law (Some a) z e p = refl
is_some_law None z {b} e p = let y : b ≡ true = not-false b p in cc

-- ---- met, with what is known of each operand
module _ (K : Kinds) (l : ℕ) (op : ProductOp) (r : ℕ) where
  left_none : K.dims l ≡ None → Err (cause.UnresolvedDimensions l) ≡ ruled_as (rule.derive K l op r)
  unfolding rule.derive rule.operand
  left_none p = rw p

  module _ {d : Dimensions} (pl : K.dims l ≡ Some d) where
    right_none : K.dims r ≡ None → Err (cause.UnresolvedDimensions r) ≡ ruled_as (rule.derive K l op r)
    unfolding rule.derive rule.operand
    right_none p = rw (pl, p)

    module _ {e : Dimensions} (pr : K.dims r ≡ Some e) where
      left_is_point : point K l ≡ true → Err (cause.Point l (code_of op) r l) ≡ ruled_as (rule.derive K l op r)
      unfolding rule.derive rule.operand
      left_is_point p = rw (pl, pr, p)

      module _ (ql : point K l ≡ false) where
        right_is_point : point K r ≡ true → Err (cause.Point l (code_of op) r r) ≡ ruled_as (rule.derive K l op r)
        unfolding rule.derive rule.operand
        right_is_point p = rw (pl, pr, ql, p)

        module _ (qr : point K r ≡ false) where
          no_grade : rule.grade_by K op (K.grade l) (K.grade r) ≡ None → Err (cause.Ungraded l r (K.grade l) (K.grade r)) ≡ ruled_as (rule.derive K l op r)
          unfolding rule.derive rule.operand rule.graded
          no_grade p = rw (pl, pr, ql, qr, p)

          one_grade : {g : ℕ} → rule.grade_by K op (K.grade l) (K.grade r) ≡ Some g → Ok g ≡ ruled_as (rule.derive K l op r)
          unfolding rule.derive rule.operand rule.graded
          one_grade p = rw (pl, pr, ql, qr, p)

-- ---- met by the code: v is what a return's call returned, a to q what the tests said, w the grade
module _ (K : Kinds) (l : ℕ) (op : ProductOp) (r : ℕ) {a : Bool} (ea : a ≡ is_some (K.dims l)) where
  pub left_unresolved : {v : Result ℕ Error} → not a ≡ true → v ≡ Err (cause.UnresolvedDimensions l) → v ≡ ruled_as (rule.derive K l op r)
  left_unresolved fa h = h ∙ left_none K l op r (is_none (K.dims l) ea fa)

  module _ (fa : not a ≡ false) {b : Bool} (eb : b ≡ is_some (K.dims r)) where
    pl : K.dims l ≡ Some (dims_at K l)
    pl = is_some_law (K.dims l) D.one ea fa

    pub right_unresolved : {v : Result ℕ Error} → not b ≡ true → v ≡ Err (cause.UnresolvedDimensions r) → v ≡ ruled_as (rule.derive K l op r)
    right_unresolved fb h = h ∙ right_none K l op r pl (is_none (K.dims r) eb fb)

    module _ (fb : not b ≡ false) {p : Bool} (ep : p ≡ point K l) where
      pr : K.dims r ≡ Some (dims_at K r)
      pr = is_some_law (K.dims r) D.one eb fb

      pub left_point : {c : ℕ} {v : Result ℕ Error} → p ≡ true → c ≡ code_of op → v ≡ Err (cause.Point l c r l) → v ≡ ruled_as (rule.derive K l op r)
      left_point fp f h = h ∙ ap (λ (c : ℕ). Err (cause.Point l c r l)) f ∙ left_is_point K l op r pl pr (sym ep ∙ fp)

      module _ (fp : p ≡ false) {q : Bool} (eq : q ≡ point K r) where
        pub right_point : {c : ℕ} {v : Result ℕ Error} → q ≡ true → c ≡ code_of op → v ≡ Err (cause.Point l c r r) → v ≡ ruled_as (rule.derive K l op r)
        right_point fq f h = h ∙ ap (λ (c : ℕ). Err (cause.Point l c r r)) f ∙ right_is_point K l op r pl pr (sym ep ∙ fp) (sym eq ∙ fq)

        module _ (fq : q ≡ false) {w : Option ℕ} (ew : w ≡ rule.grade_by K op (K.grade l) (K.grade r)) where
          pub ungraded : {v : Result ℕ Error} → w ≡ None → v ≡ Err (cause.Ungraded l r (K.grade l) (K.grade r)) → v ≡ ruled_as (rule.derive K l op r)
          ungraded fw h = h ∙ no_grade K l op r pl pr (sym ep ∙ fp) (sym eq ∙ fq) (sym ew ∙ fw)

          pub derives_to : {v : Result ℕ Error} {g : ℕ} → w ≡ Some g → v ≡ Ok g → v ≡ ruled_as (rule.derive K l op r)
          derives_to fw h = h ∙ one_grade K l op r pl pr (sym ep ∙ fp) (sym eq ∙ fq) (sym ew ∙ fw)

pub ruleset derives = (left_unresolved, right_unresolved, left_point, right_point, ungraded, derives_to)

-- ---- the dimensions that come with a grade: v is what was ruled
module _ (K : Kinds) (l : ℕ) (op : ProductOp) (r : ℕ) {v : Result ℕ Error} (e : v ≡ ruled_as (rule.derive K l op r)) where
  pub of_told : {g : ℕ} → v ≡ Ok g → rule.derive K l op r ≡ given (at (rule.joined op (dims_at K l) (dims_at K r)) g)
  unfolding rule.derive rule.operand rule.graded
  of_told {g} h = go (K.dims l) refl (K.dims r) refl (point K l) refl (point K r) refl (rule.grade_by K op (K.grade l) (K.grade r)) refl
    where
      never : (x : Error) → v ≡ Err x → ⊥
      never x q = let y : true ≡ false = cc in true≢false y

      go : (a : Option Dimensions) → K.dims l ≡ a → (b : Option Dimensions) → K.dims r ≡ b → (p : Bool) → point K l ≡ p → (q : Bool) → point K r ≡ q
          → (w : Option ℕ) → rule.grade_by K op (K.grade l) (K.grade r) ≡ w → rule.derive K l op r ≡ given (at (rule.joined op (dims_at K l) (dims_at K r)) g)
      go None ea b eb p ep q eq w ew = absurd (never (cause.UnresolvedDimensions l) (e ∙ rw ea))
      go (Some a) ea None eb p ep q eq w ew = absurd (never (cause.UnresolvedDimensions r) (e ∙ rw (ea, eb)))
      go (Some a) ea (Some b) eb true ep q eq w ew = absurd (never (cause.Point l (code_of op) r l) (e ∙ rw (ea, eb, ep)))
      go (Some a) ea (Some b) eb false ep true eq w ew = absurd (never (cause.Point l (code_of op) r r) (e ∙ rw (ea, eb, ep, eq)))
      go (Some a) ea (Some b) eb false ep false eq None ew = absurd (never (cause.Ungraded l r (K.grade l) (K.grade r)) (e ∙ rw (ea, eb, ep, eq, ew)))
      go (Some a) ea (Some b) eb false ep false eq (Some m) ew =
          let z : v ≡ Ok m = e ∙ rw (ea, eb, ep, eq, ew) in
          let y : m ≡ g = cc in
          rw (ea, eb, ep, eq, ew, y)

  -- and where there is none, why
  pub with_none_law : {x : Error} {d : Result derivation.Graded Error} → v ≡ Err x → d ≡ Err x → d ≡ derived (rule.derive K l op r)
  with_none_law {x} {d} h q = go (rule.derive K l op r) refl
    where
      go : (m : Answer Graded) → rule.derive K l op r ≡ m → d ≡ derived (rule.derive K l op r)
      go (given y) z =
          let u : ◌≡◌ {A = Result ℕ Error} (Err x) (Ok y.grade) = sym h ∙ e ∙ ap ruled_as z in
          let b : true ≡ false = cc in
          absurd (true≢false b)
      go (refused y) z =
          let u : ◌≡◌ {A = Result ℕ Error} (Err x) (Err (error_of y)) = sym h ∙ e ∙ ap ruled_as z in
          let b : x ≡ error_of y = cc in
          q ∙ ap Err b ∙ sym (ap derived z)

-- the dimensions with the grade
pub with_dims : (K : Kinds) (l : ℕ) (op : ProductOp) (r : ℕ) {g : ℕ} {d : Dimensions} → Ok g ≡ ruled_as (rule.derive K l op r) → d ≡ rule.joined op (dims_at K l) (dims_at K r)
    → Ok (record { dims = d; grade = g }) ≡ derived (rule.derive K l op r)
with_dims K l op r e q = rw (of_told K l op r e refl, q)

-- ---- a refusal of a derivation returns no dimensions
-- one refusal is another
abbrev Same : Refusal → Refusal → Type 0
Same y x = ◌≡◌ {A = Answer Graded} (refused y) (refused x)

pub plain_refusal : (K : Kinds) (l : ℕ) (op : ProductOp) (r : ℕ) (x : Refusal) → rule.derive K l op r ≡ refused x → (told x).dims ≡ None
unfolding rule.derive rule.operand rule.graded told
plain_refusal K l op r x e = go (K.dims l) refl (K.dims r) refl (point K l) refl (point K r) refl (rule.grade_by K op (K.grade l) (K.grade r)) refl
  where
    go : (a : Option Dimensions) → K.dims l ≡ a → (b : Option Dimensions) → K.dims r ≡ b → (p : Bool) → point K l ≡ p → (q : Bool) → point K r ≡ q
        → (g : Option ℕ) → rule.grade_by K op (K.grade l) (K.grade r) ≡ g → (told x).dims ≡ None
    go None ea b eb p ep q eq g eg = let z : Same (why.UnresolvedDimensions l) x = rw ea at e in cc
    go (Some a) ea None eb p ep q eq g eg = let z : Same (why.UnresolvedDimensions r) x = rw (ea, eb) at e in cc
    go (Some a) ea (Some b) eb true ep q eq g eg = let z : Same (why.Point l op r l) x = rw (ea, eb, ep) at e in cc
    go (Some a) ea (Some b) eb false ep true eq g eg = let z : Same (why.Point l op r r) x = rw (ea, eb, ep, eq) at e in cc
    go (Some a) ea (Some b) eb false ep false eq None eg = let z : Same (why.Ungraded l r (K.grade l) (K.grade r)) x = rw (ea, eb, ep, eq, eg) at e in cc
    go (Some a) ea (Some b) eb false ep false eq (Some g) eg = let z : given (at (rule.joined op a b) g) ≡ refused x = rw (ea, eb, ep, eq, eg) at e in cc
