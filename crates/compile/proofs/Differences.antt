-- 12 to 14: differences. K are the kinds that the code reads, those of the catalog C. Assumes nothing.
use Prim.Native.Nat.{ℕ, ◌+◌, ◌<◌}
use mathlib.Core.Path.{◌≡◌, refl, ap}
use mathlib.Core.Bool.{Bool, true, false, not}
use mathlib.Core.List.{List}
use Rattle.std.specs.declared.option.Option.{Option}
use Rattle.std.specs.declared.option.Option.TheVariants.{None, Some}
use Rattle.rules.specs.Kinds.{Kinds}
use Rattle.rules.specs.Layout.{kind_count}
use Rattle.rules.specs.Refusal.{AffineDimensionMismatch, NestedAffineSpace}
use Rattle.rules.specs.Catalog.{Catalog, id_at, kind_at, kind_from, catalog_in, blank, kinds_of}
use Rattle.rules.specs.Compile.{same_dims, difference_rule}
use Rattle.catalog.proofs.Found.{kind_in_law}
use Rattle.error.specs.Shown.{fault}
use Rattle.std.specs.declared.result.Result.{Result}
use Rattle.std.specs.declared.result.Result.TheVariants.{Ok, Err}
use Rattle.error.specs.declared.fault.Fault.{Fault}
use Rattle.error.specs.declared.cause.Error.TheVariants as cause
use Rattle.compile.specs.Shown.{ruled, differed}
use Rattle.compile.proofs.Ruled.{test_refused, test_passed, last_refused, last_passed, id_blank, id_unknown, id_known, link_below}

-- ---- 13, 14 of kind k and its difference d
-- whether kind d declares a difference
pub nested_at : (s : List ℕ) (d : ℕ) {q : ℕ} {b : Bool} → q ≡ kind_at d → d < kind_count s → b ≡ blank (id_at s (q + 32)) → b ≡ blank ((catalog_in s).kind d).difference
unfolding kind_from
nested_at s d a l e = rw (kind_in_law s d l, ← a) e

module _ (C : Catalog) {K : Kinds} (R : K ≡ kinds_of C) (k d : ℕ) {b : Bool} (e : b ≡ same_dims (K.dims k) (K.dims d)) where
  same_read : b ≡ same_dims (C.kind k).dims (C.kind d).dims
  unfolding kinds_of
  same_read = rw R at e

  pub differed_dims : {v : Result (Unit {0}) Fault} → not b ≡ true → v ≡ Err (fault k (cause.AffineDimensionMismatch k d)) → v ≡ ruled k (differed C k d)
  unfolding differed
  differed_dims p h = test_refused k (ap not same_read) (AffineDimensionMismatch k d) _ p h

  module _ (p : not b ≡ false) {c : Bool} (f : c ≡ blank (C.kind d).difference) where
    pub differed_nested : {v : Result (Unit {0}) Fault} → not c ≡ true → v ≡ Err (fault k (cause.NestedAffineSpace k d)) → v ≡ ruled k (differed C k d)
    unfolding differed
    differed_nested q h = test_passed k (ap not same_read) (AffineDimensionMismatch k d) _ p (last_refused k (ap not f) (NestedAffineSpace k d) q h)

    pub differed_fine : not c ≡ false → Ok tt ≡ ruled k (differed C k d)
    unfolding differed
    differed_fine q = test_passed k (ap not same_read) (AffineDimensionMismatch k d) _ p (last_passed k (ap not f) (NestedAffineSpace k d) q refl)

-- ---- 12
module _ (C : Catalog) (k : ℕ) {b : Bool} (e : b ≡ blank (C.kind k).difference) where
  pub difference_none : b ≡ true → Ok tt ≡ ruled k (difference_rule C k)
  unfolding difference_rule
  difference_none p = id_blank k C (C.kind k).difference k _ e p refl

  module _ (p : b ≡ false) {K : Kinds} (R : K ≡ kinds_of C) {u : Option ℕ} (f : u ≡ K.difference k) where
    pub difference_unknown : {v : Result (Unit {0}) Fault} → u ≡ None → v ≡ Err (fault k (cause.Unknown k)) → v ≡ ruled k (difference_rule C k)
    unfolding difference_rule kinds_of
    difference_unknown q h = id_unknown k C (C.kind k).difference k _ e p (rw R at f) q h

    pub difference_known : {v : Result (Unit {0}) Fault} {d : ℕ} → u ≡ Some d → v ≡ ruled k (differed C k d) → v ≡ ruled k (difference_rule C k)
    unfolding difference_rule kinds_of differed
    difference_known q h = id_known k C (C.kind k).difference k _ e p (rw R at f) q h

pub difference_below : (s : List ℕ) (k : ℕ) {K : Kinds} {u : Option ℕ} {d : ℕ} → K ≡ kinds_of (catalog_in s) → u ≡ K.difference k → u ≡ Some d → d < kind_count s
unfolding kinds_of
difference_below s k R f q = link_below s ((catalog_in s).kind k).difference (rw R at f) q

pub ruleset differences = (nested_at, differed_dims, differed_nested, differed_fine, difference_none, difference_unknown, difference_known, difference_below)
