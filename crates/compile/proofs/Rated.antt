-- 12 and 17 to 21: rates. K are the kinds that the code reads, those of the catalog C. Assumes nothing.
use Prim.Native.Nat.{ℕ, ◌+◌, ◌<◌, ◌≤◌}
use mathlib.Core.Path.{◌≡◌, refl, sym, ◌∙◌}
use mathlib.Core.Bool.{Bool, true, false, not}
use mathlib.Core.List.{List}
use Rattle.std.specs.declared.option.Option.TheVariants.{None, Some}
use native.Mathlib.Omega.{arith}
use borrow.Author.Tests.{not-true, not-false}
use Rattle.laws.specs.Options.{is_some}
use Rattle.laws.proofs.Below.{below_in}
use Rattle.dimension.specs.Dimension as D
use Rattle.dimension.specs.declared.dimensions.Dimensions.{Dimensions}
use Rattle.std.specs.declared.option.Option.{Option}
use Rattle.rules.specs.Kinds.{Kinds, point, duration, carries}
use Rattle.rules.specs.Layout.{kind_count}
use Rattle.rules.specs.Refusal.{NoTimeKind, PointRate, RateMismatch, AlsoRateOf}
use Rattle.rules.specs.Catalog.{Catalog, id_at, kind_at, kind_from, catalog_in, blank, rate_among, kinds_of}
use Rattle.rules.specs.Compile.{rate_rule}
use Rattle.catalog.proofs.Found.{kind_in_law}
use Rattle.table.proofs.Links.{to_some, nowhere_none}
use Rattle.error.specs.Shown.{fault}
use Rattle.std.specs.declared.result.Result.{Result}
use Rattle.std.specs.declared.result.Result.TheVariants.{Ok, Err}
use Rattle.error.specs.declared.fault.Fault.{Fault}
use Rattle.error.specs.declared.cause.Error.TheVariants as cause
use Rattle.fitting.specs.Shown.{at}
use Rattle.joined.specs.Shown.{dims_at}
use Rattle.compile.specs.Shown.{ruled, rate_once, rate_fits, rate_over, rate_for}
use Rattle.compile.proofs.Firsts.{first_fewer, first_before, first_after}
use Rattle.compile.proofs.Ruled.{test_refused, test_passed, found_refused, found_passed, needed_refused, needed_passed, operand_refused, operand_passed, only_refused, only_passed, id_blank, id_unknown, id_known, link_below}

-- ---- 21: u is the first kind that is a rate of g
rate_is : (s : List ℕ) {K : Kinds} (g : ℕ) → K ≡ kinds_of (catalog_in s) → g < kind_count s → K.rate g ≡ rate_among (catalog_in s) (kind_count s) g
unfolding kinds_of catalog_in
rate_is s g R m = rw R (below_in (kind_count s) None (rate_among (catalog_in s) (kind_count s)) g m)

module _ (s : List ℕ) {K : Kinds} (R : K ≡ kinds_of (catalog_in s)) (k g : ℕ) (l : k < kind_count s) (m : g < kind_count s) {u : Option ℕ} (e : u ≡ K.rate g) where
  pub once_before : {v : Result (Unit {0}) Fault} {j : ℕ} → u ≡ Some j → j < k → v ≡ Err (fault k (cause.AlsoRateOf j)) → v ≡ ruled k (rate_once (catalog_in s) k g)
  unfolding rate_once rate_among
  once_before q h z = found_refused k AlsoRateOf (first_before _ k (kind_count s) (sym (rate_is s g R m) ∙ to_some (K.rate g) q e) h (omega arith)) z

  pub once_after : {j : ℕ} → u ≡ Some j → k ≤ j → Ok tt ≡ ruled k (rate_once (catalog_in s) k g)
  unfolding rate_once rate_among
  once_after q h = found_passed k AlsoRateOf (first_after _ k (kind_count s) (sym (rate_is s g R m) ∙ to_some (K.rate g) q e) h) refl

  pub once_never : u ≡ None → Ok tt ≡ ruled k (rate_once (catalog_in s) k g)
  unfolding rate_once rate_among
  once_never q = found_passed k AlsoRateOf (first_fewer _ k (kind_count s) (omega arith) (sym (rate_is s g R m) ∙ nowhere_none (K.rate g) q e)) refl

module _ (C : Catalog) {K : Kinds} (R : K ≡ kinds_of C) (k g : ℕ) where
  -- ---- 20: the rate's and the duration's dimensions a and c, their product o, the rate's grade h
  module _ {a c x y : Dimensions} {o : Option Dimensions} (p : x ≡ a) (q : y ≡ c) (f : o ≡ D.product x y) {h : ℕ} (w : h ≡ K.grade k) {b : Bool} (e : b ≡ carries K (at (D.or_one o) h) g) where
    carries_read : not b ≡ not (carries (kinds_of C) (at (D.or_one (D.product a c)) ((kinds_of C).grade k)) g)
    carries_read = rw (e, ← R, f, p, q, w)

    pub fits_wrong : {v : Result (Unit {0}) Fault} → not b ≡ true → v ≡ Err (fault k (cause.RateMismatch (D.or_one o) h)) → v ≡ ruled k (rate_fits C k g a c)
    unfolding rate_fits
    fits_wrong t z = test_refused k carries_read (RateMismatch (at (D.or_one (D.product a c)) ((kinds_of C).grade k))) _ t (rw (f, p, q, w, R) at z)

    pub fits_once : {v : Result (Unit {0}) Fault} → not b ≡ false → v ≡ ruled k (rate_once C k g) → v ≡ ruled k (rate_fits C k g a c)
    unfolding rate_fits
    fits_once t z = test_passed k carries_read (RateMismatch (at (D.or_one (D.product a c)) ((kinds_of C).grade k))) _ t z

  -- ---- 18, 19: each test as the code made it
  module _ (d : ℕ) {v : Result (Unit {0}) Fault} {b : Bool} (e : b ≡ point K k) where
    pub over_rate : b ≡ true → v ≡ Err (fault k (cause.PointRate k g k)) → v ≡ ruled k (rate_over C k g d)
    unfolding rate_over
    over_rate t h = test_refused k (rw R at e) (PointRate k g k) _ t h

    module _ (t : b ≡ false) {b₂ : Bool} (e₂ : b₂ ≡ point K g) where
      pub over_target : b₂ ≡ true → v ≡ Err (fault k (cause.PointRate k g g)) → v ≡ ruled k (rate_over C k g d)
      unfolding rate_over
      over_target t₂ h = test_passed k (rw R at e) (PointRate k g k) _ t (test_refused k (rw R at e₂) (PointRate k g g) _ t₂ h)

      module _ (t₂ : b₂ ≡ false) {b₃ : Bool} (e₃ : b₃ ≡ is_some (K.dims k)) where
        pub over_unresolved : not b₃ ≡ true → v ≡ Err (fault k (cause.UnresolvedDimensions k)) → v ≡ ruled k (rate_over C k g d)
        unfolding rate_over
        over_unresolved t₃ h =
            test_passed k (rw R at e) (PointRate k g k) _ t
            (test_passed k (rw R at e₂) (PointRate k g g) _ t₂
            (operand_refused k (kinds_of C) k (rw R at e₃) _ (not-true b₃ t₃) h))

        module _ (t₃ : not b₃ ≡ false) {b₄ : Bool} (e₄ : b₄ ≡ is_some (K.dims g)) where
          pub target_unresolved : not b₄ ≡ true → v ≡ Err (fault k (cause.UnresolvedDimensions g)) → v ≡ ruled k (rate_over C k g d)
          unfolding rate_over
          target_unresolved t₄ h =
              test_passed k (rw R at e) (PointRate k g k) _ t
              (test_passed k (rw R at e₂) (PointRate k g g) _ t₂
              (operand_passed k (kinds_of C) k (rw R at e₃) _ (not-false b₃ t₃)
              (only_refused k (kinds_of C) g (rw R at e₄) _ (not-true b₄ t₄) h)))

          module _ (t₄ : not b₄ ≡ false) {b₅ : Bool} (e₅ : b₅ ≡ is_some (K.dims d)) where
            pub duration_unresolved : not b₅ ≡ true → v ≡ Err (fault k (cause.UnresolvedDimensions d)) → v ≡ ruled k (rate_over C k g d)
            unfolding rate_over
            duration_unresolved t₅ h =
                test_passed k (rw R at e) (PointRate k g k) _ t
                (test_passed k (rw R at e₂) (PointRate k g g) _ t₂
                (operand_passed k (kinds_of C) k (rw R at e₃) _ (not-false b₃ t₃)
                (only_passed k (kinds_of C) g (rw R at e₄) _ (not-false b₄ t₄)
                (operand_refused k (kinds_of C) d (rw R at e₅) _ (not-true b₅ t₅) h))))

            pub over_fits : not b₅ ≡ false → v ≡ ruled k (rate_fits C k g (dims_at K k) (dims_at K d)) → v ≡ ruled k (rate_over C k g d)
            unfolding rate_over
            over_fits t₅ h =
                test_passed k (rw R at e) (PointRate k g k) _ t
                (test_passed k (rw R at e₂) (PointRate k g g) _ t₂
                (operand_passed k (kinds_of C) k (rw R at e₃) _ (not-false b₃ t₃)
                (only_passed k (kinds_of C) g (rw R at e₄) _ (not-false b₄ t₄)
                (operand_passed k (kinds_of C) d (rw R at e₅) _ (not-false b₅ t₅) (rw R at h)))))

  -- ---- 17: u is the duration
  module _ {v : Result (Unit {0}) Fault} {u : Option ℕ} (e : u ≡ duration K) where
    pub rate_timeless : u ≡ None → v ≡ Err (fault k (cause.NoTimeKind k g)) → v ≡ ruled k (rate_for C k g)
    unfolding rate_for
    rate_timeless q h = needed_refused k (NoTimeKind k g) _ (nowhere_none (duration (kinds_of C)) q (rw R at e)) h

    pub rate_over_law : {d : ℕ} → u ≡ Some d → v ≡ ruled k (rate_over C k g d) → v ≡ ruled k (rate_for C k g)
    unfolding rate_for
    rate_over_law q h = needed_passed k (NoTimeKind k g) (λ d. rate_over C k g d) (to_some (duration (kinds_of C)) q (rw R at e)) h

-- ---- 12
-- whether kind k declares a target
pub target_at : (s : List ℕ) (k : ℕ) {q : ℕ} {b : Bool} → q ≡ kind_at k → k < kind_count s → b ≡ blank (id_at s (q + 64)) → b ≡ blank ((catalog_in s).kind k).rate_of
unfolding kind_from
target_at s k a l e = rw (kind_in_law s k l, ← a) e

module _ (C : Catalog) (k : ℕ) {b : Bool} (e : b ≡ blank (C.kind k).rate_of) where
  pub rate_none : b ≡ true → Ok tt ≡ ruled k (rate_rule C k)
  unfolding rate_rule
  rate_none p = id_blank k C (C.kind k).rate_of k _ e p refl

  module _ (p : b ≡ false) {K : Kinds} (R : K ≡ kinds_of C) {u : Option ℕ} (f : u ≡ K.rate_of k) where
    pub target_unknown : {v : Result (Unit {0}) Fault} → u ≡ None → v ≡ Err (fault k (cause.Unknown k)) → v ≡ ruled k (rate_rule C k)
    unfolding rate_rule kinds_of
    target_unknown q h = id_unknown k C (C.kind k).rate_of k _ e p (rw R at f) q h

    pub target_known : {v : Result (Unit {0}) Fault} {g : ℕ} → u ≡ Some g → v ≡ ruled k (rate_for C k g) → v ≡ ruled k (rate_rule C k)
    unfolding rate_rule kinds_of rate_for rate_over rate_fits rate_once
    target_known q h = id_known k C (C.kind k).rate_of k _ e p (rw R at f) q h

pub target_below : (s : List ℕ) (k : ℕ) {K : Kinds} {u : Option ℕ} {g : ℕ} → K ≡ kinds_of (catalog_in s) → u ≡ K.rate_of k → u ≡ Some g → g < kind_count s
unfolding kinds_of
target_below s k R f q = link_below s ((catalog_in s).kind k).rate_of (rw R at f) q

pub ruleset onces = (once_before, once_after, once_never)

pub ruleset rates = (
  fits_wrong,
  fits_once,
  over_rate,
  over_target,
  over_unresolved,
  target_unresolved,
  duration_unresolved,
  over_fits,
  rate_timeless,
  rate_over_law,
  target_at,
  rate_none,
  target_unknown,
  target_known,
  target_below,
)
