-- 15 and 16: the dimensionless and the time kind. K are the kinds that the code reads, those of the catalog C. Assumes nothing.
use Prim.Native.Nat.{ℕ, ◌<◌, ◌≤◌}
use mathlib.Core.Path.{◌≡◌, refl, sym, ◌∙◌, ap}
use mathlib.Core.Bool.{Bool, true, false, cond, not, ◌&&◌}
use mathlib.Core.List.{List}
use Rattle.std.specs.declared.option.Option.{Option}
use Rattle.std.specs.declared.option.Option.TheVariants.{None, Some}
use borrow.Author.Tests.{not-true, not-false}
use lib.Dec.{eqb}
use Rattle.laws.specs.Options.{is_some, found}
use Rattle.laws.specs.Ranges.{first}
use Rattle.laws.proofs.First.{first_here, first_end}
use Rattle.dimension.specs.Dimension as D
use Rattle.rules.specs.Kinds.{Kinds, point}
use Rattle.rules.specs.Refusal.{InvalidDimensionlessKind, InvalidTimeKind}
use Rattle.rules.specs.Catalog.{Catalog, id_at, catalog_in, blank, meant, difference_of, is_difference, role, kinds_of}
use Rattle.rules.specs.Compile.{same_dims, dimensionless_rule, time_rule}
use Rattle.error.specs.Shown.{fault}
use Rattle.std.specs.declared.result.Result.{Result}
use Rattle.std.specs.declared.result.Result.TheVariants.{Ok, Err}
use Rattle.error.specs.declared.fault.Fault.{Fault}
use Rattle.error.specs.declared.cause.Error.TheVariants as cause
use Rattle.compile.specs.Shown.{ruled, is_difference_in, linear_one, neutral_kind, time_kind}
use Rattle.compile.proofs.Ruled.{some_false, some_true, last_refused, last_passed, id_blank, id_unknown, id_known}

-- ---- the scan for a kind with the difference k
module _ (K : Kinds) (k j : ℕ) {n : ℕ} (c : n ≡ K.count) (p : first (λ i. meant k (K.difference i)) j ≡ None) where
  pub difference_here : {b : Bool} → j < n → b ≡ meant k (K.difference j) → b ≡ true → true ≡ is_difference_in K k
  unfolding is_difference_in
  difference_here l e t = rw (← c, first_here (λ i. meant k (K.difference i)) j n l p e t)

  pub difference_end : j ≤ n → n ≤ j → false ≡ is_difference_in K k
  unfolding is_difference_in
  difference_end l m = rw (← c, first_end (λ i. meant k (K.difference i)) j n l m p)

-- ---- linear and of dimension one: b, c and d say whether the kind is a point, is a difference, has dimensions
module _ (K : Kinds) (k : ℕ) {b : Bool} (e : b ≡ point K k) where
  pub linear_point : b ≡ true → false ≡ linear_one K k
  unfolding linear_one
  linear_point p = rw (sym e ∙ p)

  module _ (p : b ≡ false) {c : Bool} (f : c ≡ is_difference_in K k) where
    pub linear_difference : c ≡ true → false ≡ linear_one K k
    unfolding linear_one
    linear_difference q = rw (sym e ∙ p, sym f ∙ q)

    module _ (q : c ≡ false) {d : Bool} (g : d ≡ is_some (K.dims k)) where
      pub linear_unresolved : not d ≡ true → false ≡ linear_one K k
      unfolding linear_one
      linear_unresolved r = rw (sym e ∙ p, sym f ∙ q, some_false (K.dims k) (sym g ∙ not-true d r))

      pub linear_dims : not d ≡ false → D.equal (found (K.dims k) (λ d. d) D.one) D.one ≡ linear_one K k
      unfolding linear_one
      linear_dims r = rw (sym e ∙ p, sym f ∙ q, some_true (K.dims k) (sym g ∙ not-false d r))

-- ---- 15
linear_role : (C : Catalog) (o : ℕ) → linear_one (kinds_of C) o ≡ (eqb (role C o) 0 && same_dims (C.kind o).dims (Some D.one))
unfolding linear_one is_difference_in role is_difference kinds_of
linear_role C o = go (is_some (difference_of C o)) (is_some (first (λ j. meant o (difference_of C j)) C.kind_count)) (same_dims (C.kind o).dims (Some D.one))
  where
    go : (p q s : Bool) → cond p false (cond q false s) ≡ (eqb (cond p 1 (cond q 2 0)) 0 && s)
    go true q s = refl
    go false true s = refl
    go false false s = refl

module _ (C : Catalog) {K : Kinds} (R : K ≡ kinds_of C) (o : ℕ) {b : Bool} (e : b ≡ linear_one K o) where
  role_read : not b ≡ not (eqb (role C o) 0 && same_dims (C.kind o).dims (Some D.one))
  role_read = ap not (e ∙ (ap (λ (X : Kinds). linear_one X o) R ∙ linear_role C o))

  pub neutral_wrong : {v : Result (Unit {0}) Fault} → not b ≡ true → v ≡ Err (fault 12 (cause.InvalidDimensionlessKind o)) → v ≡ ruled 12 (neutral_kind C o)
  unfolding neutral_kind
  neutral_wrong p h = last_refused 12 role_read (InvalidDimensionlessKind o) p h

  pub neutral_fine : not b ≡ false → Ok tt ≡ ruled 12 (neutral_kind C o)
  unfolding neutral_kind
  neutral_fine p = last_passed 12 role_read (InvalidDimensionlessKind o) p refl

-- ---- 16
module _ (C : Catalog) {K : Kinds} (R : K ≡ kinds_of C) (k : ℕ) {b : Bool} (e : b ≡ point K k) {g : ℕ} (f : g ≡ K.grade k) where
  time_read : not (b && eqb g 0) ≡ not (point (kinds_of C) k && eqb (C.kind k).grade 0)
  unfolding kinds_of
  time_read = rw (e, f, R)

  pub time_wrong : {v : Result (Unit {0}) Fault} → (b && eqb g 0) ≡ false → v ≡ Err (fault 44 (cause.InvalidTimeKind k)) → v ≡ ruled 44 (time_kind C k)
  unfolding time_kind
  time_wrong p h = last_refused 44 time_read (InvalidTimeKind k) (ap not p) h

  pub time_fine : (b && eqb g 0) ≡ true → Ok tt ≡ ruled 44 (time_kind C k)
  unfolding time_kind
  time_fine p = last_passed 44 time_read (InvalidTimeKind k) (ap not p) refl

-- ---- 12 of the two
module _ (s : List ℕ) where
  module _ {b : Bool} (e : b ≡ blank (id_at s 12)) where
    pub one_none : b ≡ true → Ok tt ≡ ruled 12 (dimensionless_rule (catalog_in s))
    unfolding dimensionless_rule catalog_in
    one_none p = id_blank 12 (catalog_in s) (id_at s 12) 0 _ e p refl

    module _ (p : b ≡ false) {K : Kinds} (R : K ≡ kinds_of (catalog_in s)) {u : Option ℕ} (f : u ≡ K.dimensionless) where
      pub one_unknown : {v : Result (Unit {0}) Fault} → u ≡ None → v ≡ Err (fault 12 (cause.Unknown 0)) → v ≡ ruled 12 (dimensionless_rule (catalog_in s))
      unfolding dimensionless_rule catalog_in kinds_of
      one_unknown q h = id_unknown 12 (catalog_in s) (id_at s 12) 0 _ e p (rw R at f) q h

      pub one_known : {v : Result (Unit {0}) Fault} {o : ℕ} → u ≡ Some o → v ≡ ruled 12 (neutral_kind (catalog_in s) o) → v ≡ ruled 12 (dimensionless_rule (catalog_in s))
      unfolding dimensionless_rule catalog_in kinds_of neutral_kind
      one_known q h = id_known 12 (catalog_in s) (id_at s 12) 0 _ e p (rw R at f) q h

  module _ {b : Bool} (e : b ≡ blank (id_at s 44)) where
    pub time_none : b ≡ true → Ok tt ≡ ruled 44 (time_rule (catalog_in s))
    unfolding time_rule catalog_in
    time_none p = id_blank 44 (catalog_in s) (id_at s 44) 0 _ e p refl

    module _ (p : b ≡ false) {K : Kinds} (R : K ≡ kinds_of (catalog_in s)) {u : Option ℕ} (f : u ≡ K.time) where
      pub time_unknown : {v : Result (Unit {0}) Fault} → u ≡ None → v ≡ Err (fault 44 (cause.Unknown 0)) → v ≡ ruled 44 (time_rule (catalog_in s))
      unfolding time_rule catalog_in kinds_of
      time_unknown q h = id_unknown 44 (catalog_in s) (id_at s 44) 0 _ e p (rw R at f) q h

      pub time_known : {v : Result (Unit {0}) Fault} {k : ℕ} → u ≡ Some k → v ≡ ruled 44 (time_kind (catalog_in s) k) → v ≡ ruled 44 (time_rule (catalog_in s))
      unfolding time_rule catalog_in kinds_of time_kind
      time_known q h = id_known 44 (catalog_in s) (id_at s 44) 0 _ e p (rw R at f) q h

pub ruleset linears = (linear_point, linear_difference, linear_unresolved, linear_dims)

pub ruleset headers = (neutral_wrong, neutral_fine, time_wrong, time_fine, one_none, one_unknown, one_known, time_none, time_unknown, time_known)
