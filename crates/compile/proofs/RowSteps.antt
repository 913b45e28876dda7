-- The rule of a row from each of its steps on, one law a return. Assumes nothing.
use Prim.Native.Nat.{ℕ}
use mathlib.Core.Path.{◌≡◌, refl, sym, ◌∙◌, ap}
use mathlib.Core.Bool.{Bool, true, false, cond, not, ◌&&◌, true≢false}
use Rattle.std.specs.declared.option.Option.{Option}
use Rattle.std.specs.declared.option.Option.TheVariants.{None, Some}
use borrow.Author.Tests.{not-true, not-false}
use Rattle.laws.specs.Options.{is_some}
use Rattle.laws.specs.Out.{given, refused}
use Rattle.laws.proofs.Cases.{and_left, and_right}
use Rattle.dimension.specs.declared.dimensions.Dimensions.{Dimensions}
use Rattle.rules.specs.Kinds.{Kinds, Rows, point, carries}
use Rattle.rules.specs.Refusal.{InvalidOperationRule, code_of}
use Rattle.rules.specs.Arithmetic as rule
use Rattle.error.specs.Shown.{fault, fine}
use Rattle.std.specs.declared.result.Result.{Result}
use Rattle.std.specs.declared.result.Result.TheVariants.{Ok, Err}
use Rattle.error.specs.declared.fault.Fault.{Fault}
use Rattle.error.specs.declared.cause.Error.{Error}
use Rattle.error.specs.declared.cause.Error.TheVariants as cause
use Rattle.fitting.specs.Shown.{at}
use Rattle.fitting.proofs.Twins.{settle_several}
use Rattle.derive.specs.declared.resolution.Several.{Several}
use Rattle.derive.specs.declared.resolution.Several.TheVariants as several
use Rattle.derive.specs.Shown.{derived, several_of}
use Rattle.derive.specs.declared.derivation.Graded as derivation
use Rattle.derive.proofs.Derives.{given_told, refused_told}
use Rattle.derive.proofs.Resolves as resolves
use Rattle.compile.specs.declared.rows.Row.{Row}
use Rattle.compile.specs.Shown.{ruled}
use Rattle.compile.specs.Rows.{pair_fresh, fresh_in, row_several, row_fits, row_derived, row_named}

abbrev no : Error → ℕ → Result (Unit {0}) Fault
no e i = Err (fault i e)

-- ---- 27
is_there_law : (o : Option ℕ) {t : Bool} → t ≡ true → t ≡ is_some o → (k : ℕ) × (o ≡ Some k)
is_there_law (Some k) p e = (k, refl)
is_there_law None p e = let z : true ≡ false = cc in absurd (true≢false z)

is_missing : (o : Option ℕ) {t : Bool} → t ≡ false → t ≡ is_some o → o ≡ None
is_missing (Some k) p e = cc
is_missing None p e = refl

module _ (R : Rows) (x : Row) (i : ℕ) {t : Bool} (e : t ≡ is_some (R x.left x.op x.right)) where
  pub fresh_taken : {v : Result (Unit {0}) Fault} → t ≡ true → v ≡ no (cause.ConflictingOperationRule x.left x.right) i → v ≡ ruled i (pair_fresh R x)
  unfolding ruled pair_fresh fresh_in fine
  fresh_taken p h = rw (is_there_law (R x.left x.op x.right) p e).1 h

  module _ (p : t ≡ false) {u : Bool} (f : u ≡ is_some (R x.right x.op x.left)) where
    pub fresh_turned : {v : Result (Unit {0}) Fault} → (x.commutative && u) ≡ true → v ≡ no (cause.ConflictingOperationRule x.right x.left) i → v ≡ ruled i (pair_fresh R x)
    unfolding ruled pair_fresh fresh_in fine
    fresh_turned q h =
        rw (is_missing (R x.left x.op x.right) p e, and_left x.commutative u q, (is_there_law (R x.right x.op x.left) (and_right x.commutative u q) f).1) h

    pub fresh_fine : (x.commutative && u) ≡ false → Ok tt ≡ ruled i (pair_fresh R x)
    unfolding ruled pair_fresh fresh_in fine
    fresh_fine q = rw (is_missing (R x.left x.op x.right) p e) (go x.commutative refl)
      where
        go : (c : Bool) → x.commutative ≡ c → Ok tt ≡ ruled i (cond c (fresh_in R x.right x.op x.left) (given tt))
        go true z = let w : u ≡ false = rw z at q in rw (is_missing (R x.right x.op x.left) w f) refl
        go false z = refl

pub ruleset freshness = (fresh_taken, fresh_turned, fresh_fine)

-- ---- 25, 26
unfit_shown : (d : Dimensions) (h i : ℕ) → Err (fault i (cause.InvalidOperationRule d h)) ≡ ruled i (refused (InvalidOperationRule (at d h)))
unfolding ruled fine
unfit_shown d h i = refl

module _ (K : Kinds) (R : Rows) (x : Row) (i : ℕ) where
  module _ (d : Dimensions) (h : ℕ) where
    module _ {w : Several} (e : w ≡ several_of (rule.resolve K x.left x.op x.right (at d h))) where
      pub several_is : {k : ℕ} → w ≡ several.Is k → no (cause.DerivedOperationRule k) i ≡ ruled i (row_several K R x (at d h))
      unfolding ruled row_several fine
      several_is p = rw (resolves.several_is (rule.resolve K x.left x.op x.right (at d h)) p e)

      pub several_twins : {v : Result (Unit {0}) Fault} → w ≡ several.Many → v ≡ ruled i (pair_fresh R x) → v ≡ ruled i (row_several K R x (at d h))
      unfolding row_several
      several_twins p z = z ∙ ap (ruled i) (sym (settle_several (rule.resolve K x.left x.op x.right (at d h)) _ _ (λ more. pair_fresh R x) (resolves.several_many (rule.resolve K x.left x.op x.right (at d h)) p e)))

      pub several_none : w ≡ several.Nothing → no (cause.InvalidOperationRule d h) i ≡ ruled i (row_several K R x (at d h))
      unfolding row_several
      several_none p = rw (resolves.several_nothing (rule.resolve K x.left x.op x.right (at d h)) p e) (unfit_shown d h i)

    module _ {b : Bool} (e : b ≡ carries K (at d h) x.result) where
      pub fits_not : not b ≡ true → no (cause.InvalidOperationRule d h) i ≡ ruled i (row_fits K R x (at d h))
      unfolding row_fits
      fits_not p = rw (sym e ∙ not-true b p) (unfit_shown d h i)

      pub fits_on : {v : Result (Unit {0}) Fault} → not b ≡ false → v ≡ ruled i (row_several K R x (at d h)) → v ≡ ruled i (row_fits K R x (at d h))
      unfolding row_fits
      fits_on p z = rw (sym e ∙ not-false b p) z

  -- ---- the derivation
  module _ {y : Result derivation.Graded Error} (e : y ≡ derived (rule.derive K x.left x.op x.right)) where
    pub derived_refused : {z : Error} → y ≡ Err z → no z i ≡ ruled i (row_derived K R x)
    unfolding ruled row_derived fine
    derived_refused p =
        let s = refused_told (rule.derive K x.left x.op x.right) p e in
        rw (s.1, ← s.2)

    pub derived_on : {v : Result (Unit {0}) Fault} {z : derivation.Graded} → y ≡ Ok z → v ≡ ruled i (row_fits K R x (at z.dims z.grade)) → v ≡ ruled i (row_derived K R x)
    unfolding row_derived
    derived_on p h = rw (given_told (rule.derive K x.left x.op x.right) p e) h

  -- ---- 23, 19 for the result
  module _ {p : Bool} (e : p ≡ point K x.result) where
    pub named_point : {c : ℕ} → p ≡ true → c ≡ code_of x.op → no (cause.Point x.left c x.right x.result) i ≡ ruled i (row_named K R x)
    unfolding ruled row_named fine
    named_point q f = rw (sym e ∙ q, f)

    module _ (q : p ≡ false) {b : Bool} (f : b ≡ is_some (K.dims x.result)) where
      pub named_unresolved : not b ≡ true → no (cause.UnresolvedDimensions x.result) i ≡ ruled i (row_named K R x)
      unfolding ruled row_named rule.operand fine
      named_unresolved r = go (K.dims x.result) refl
        where
          go : (o : Option Dimensions) → K.dims x.result ≡ o → no (cause.UnresolvedDimensions x.result) i ≡ ruled i (row_named K R x)
          go None z = rw (sym e ∙ q, z)
          go (Some d) z = let w : b ≡ false = not-true b r in cc

      pub named_on : {v : Result (Unit {0}) Fault} → not b ≡ false → v ≡ ruled i (row_derived K R x) → v ≡ ruled i (row_named K R x)
      unfolding row_named rule.operand
      named_on {v} r h = go (K.dims x.result) refl
        where
          go : (o : Option Dimensions) → K.dims x.result ≡ o → v ≡ ruled i (row_named K R x)
          go None z = let w : b ≡ true = not-false b r in cc
          go (Some d) z = rw (sym e ∙ q, z) h

pub ruleset steps = (several_is, several_twins, several_none, fits_not, fits_on, derived_refused, derived_on, named_point, named_unresolved, named_on)
