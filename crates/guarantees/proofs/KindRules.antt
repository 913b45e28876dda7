-- What the rules of differences, of the dimensionless and the time kind and of rates tell, once they have given. Assumes nothing.
use Prim.Native.Nat.{ℕ, ◌<◌, ◌≤◌}
use mathlib.Core.Path.{◌≡◌, refl, sym, ◌∙◌}
use mathlib.Core.Bool.{Bool, true, false, not, ◌&&◌, true≢false}
use Rattle.std.specs.declared.option.Option.{Option}
use Rattle.std.specs.declared.option.Option.TheVariants.{None, Some}
use lib.Dec.{eqb, ltb}
use borrow.Author.Tests.{ltb-true, ltb-false, eqb-true, eq-eqb}
use Rattle.laws.specs.Out.{given, needed}
use Rattle.laws.specs.Ranges.{first}
use Rattle.laws.proofs.Cases.{and_left, and_right}
use Rattle.laws.proofs.Checks.{bind_given, then_given, refuse_given, found_given, needed_given}
use Rattle.laws.proofs.First.{first_below, first_passes, first_misses}
use Rattle.laws.proofs.Below.{below_in, below_past}
use Rattle.dimension.specs.Dimension as D
use Rattle.dimension.specs.declared.dimensions.Dimensions.{Dimensions}
use Rattle.rules.specs.Kinds.{Kinds, point, duration, carries}
use Rattle.rules.specs.Refusal.{Unknown, NoTimeKind, UnresolvedDimensions}
use Rattle.rules.specs.Arithmetic.{operand}
use Rattle.rules.specs.Catalog.{Id, blank, Catalog, absent_kind, meant, find, link, difference_of, target_of, rate_among, is_difference, role, kinds_of}
use Rattle.rules.specs.Compile.{same_dims, called, difference_rule, dimensionless_rule, time_rule, rate_rule}
use Rattle.guarantees.specs.Premises.{IsDifference, IsDimensionless, IsRate}
use Rattle.guarantees.proofs.Given.{test_given, declared_given, not_true, some_false, same_dims_law, meant_is}

-- past its count a catalog declares nothing
abbrev pub Quiet : Catalog → Type 0
Quiet C = (k : ℕ) → C.kind_count ≤ k → C.kind k ≡ absent_kind

pub operand_given : (K : Kinds) (k : ℕ) {d : Dimensions} → operand K k ≡ given d → K.dims k ≡ Some d
unfolding operand
operand_given K k e = needed_given (K.dims k) (UnresolvedDimensions k) e

module _ (C : Catalog) where
  abbrev K : Kinds
  K = kinds_of C

  pub find_below : (id : Id) {k : ℕ} → find C id ≡ Some k → k < C.kind_count
  unfolding find
  find_below id e = first_below _ C.kind_count e

  pub called_given : (i : ℕ) (id : Id) {k : ℕ} → called C i id ≡ given k → find C id ≡ Some k
  unfolding called
  called_given i id e = needed_given (find C id) (Unknown i) e

  -- an id that names a kind is declared, and found
  link_some : (id : Id) {k : ℕ} → link C id ≡ Some k → (blank id ≡ false) × (find C id ≡ Some k)
  unfolding link
  link_some id {k} e = go (blank id) refl
    where
      go : (t : Bool) → blank id ≡ t → (blank id ≡ false) × (find C id ≡ Some k)
      go true p = let h : None ≡ Some k = rw p at e in let z : true ≡ false = cc in absurd (true≢false z)
      go false p = (p, rw p at e)

  blank_link : (id : Id) → blank id ≡ true → link C id ≡ None
  unfolding link
  blank_link id e = rw e

  pub in_count : {k : ℕ} → k < C.kind_count → k < K.count
  unfolding kinds_of
  in_count h = h

  -- a kind that names another is one of the catalog's
  within : Quiet C → (f : ℕ → Option ℕ) → ((k : ℕ) → C.kind k ≡ absent_kind → f k ≡ None) → (k : ℕ) {d : ℕ} → f k ≡ Some d → k < C.kind_count
  within quiet f nothing k {d} e = go (ltb k C.kind_count) refl
    where
      go : (t : Bool) → ltb k C.kind_count ≡ t → k < C.kind_count
      go true p = ltb-true k C.kind_count p
      go false p =
          let z : None ≡ Some d = sym (nothing k (quiet k (ltb-false k C.kind_count p))) ∙ e in
          let y : true ≡ false = cc in
          absurd (true≢false y)

  pub difference_in : Quiet C → (k : ℕ) {d : ℕ} → K.difference k ≡ Some d → k < C.kind_count
  unfolding kinds_of link blank
  difference_in quiet k e = within quiet (difference_of C) (λ j z. rw z) k e

  pub target_in : Quiet C → (k : ℕ) {t : ℕ} → K.rate_of k ≡ Some t → k < C.kind_count
  unfolding kinds_of link blank
  target_in quiet k e = within quiet (target_of C) (λ j z. rw z) k e

  target_links : (k : ℕ) {t : ℕ} → K.rate_of k ≡ Some t → target_of C k ≡ Some t
  unfolding kinds_of
  target_links k e = e

  -- the rate of t is one that names it
  pub rate_names : (k t : ℕ) → K.rate t ≡ Some k → K.rate_of k ≡ Some t
  unfolding kinds_of rate_among
  rate_names k t e = go (ltb t C.kind_count) refl
    where
      go : (b : Bool) → ltb t C.kind_count ≡ b → target_of C k ≡ Some t
      go true p =
          let f : first (λ j. meant t (target_of C j)) C.kind_count ≡ Some k = sym (below_in C.kind_count None (rate_among C C.kind_count) t (ltb-true t C.kind_count p)) ∙ e in
          meant_is t (target_of C k) (first_passes (λ j. meant t (target_of C j)) C.kind_count f)
      go false p =
          let f : None ≡ Some k = sym (below_past C.kind_count None (rate_among C C.kind_count) t (ltb-false t C.kind_count p)) ∙ e in
          let z : true ≡ false = cc in
          absurd (true≢false z)

  -- ---- 13, 14
  pub difference_tells : (k d : ℕ) → difference_rule C k ≡ given tt → K.difference k ≡ Some d → IsDifference K k d × (K.difference d ≡ None)
  unfolding difference_rule kinds_of
  difference_tells k d e p =
      let l = link_some (C.kind k).difference p in
      let s = bind_given (called C k (C.kind k).difference) _ (declared_given (C.kind k).difference _ l.0 e) in
      let z : d ≡ s.0 = cc (l.1, called_given k _ s.1) in
      let t = test_given _ _ _ s.2 in
      let n : link C (C.kind s.0).difference ≡ None = blank_link _ (not_true _ (refuse_given _ _ t.1)) in
      (record { below = find_below _ l.1; dims = rw z (sym (same_dims_law _ _ (not_true _ t.0))) }, rw z n)

  -- ---- 15
  linear_tells : (k : ℕ) → eqb (role C k) 0 ≡ true → (K.difference k ≡ None) × (is_difference C k ≡ false)
  unfolding role kinds_of
  linear_tells k e = go (difference_of C k) refl (is_difference C k) refl
    where
      go : (o : Option ℕ) → difference_of C k ≡ o → (t : Bool) → is_difference C k ≡ t → (difference_of C k ≡ None) × (is_difference C k ≡ false)
      go None p false q = (p, q)
      go None p true q = let z : false ≡ true = rw (p, q) at e in absurd (true≢false (sym z))
      go (Some d) p t q = let z : false ≡ true = rw p at e in absurd (true≢false (sym z))

  meant_self : (k : ℕ) {o : Option ℕ} → o ≡ Some k → meant k o ≡ true
  meant_self k e = rw e (eq-eqb k k refl)

  -- no kind of the catalog has it as its difference
  pub no_difference : Quiet C → (k : ℕ) → is_difference C k ≡ false → (j : ℕ) → K.difference j ≡ Some k → ⊥
  unfolding is_difference kinds_of link blank
  no_difference quiet k e j p =
      true≢false (sym (meant_self k p) ∙ first_misses (λ i. meant k (difference_of C i)) C.kind_count j (some_false _ e) (within quiet (difference_of C) (λ i z. rw z) j p))

  pub dimensionless_tells : (o : ℕ) → dimensionless_rule C ≡ given tt → K.dimensionless ≡ Some o → IsDimensionless K o × (is_difference C o ≡ false)
  unfolding dimensionless_rule kinds_of
  dimensionless_tells o e p =
      let l = link_some C.dimensionless p in
      let s = bind_given (called C 0 C.dimensionless) _ (declared_given C.dimensionless _ l.0 e) in
      let z : s.0 ≡ o = cc (l.1, called_given 0 C.dimensionless s.1) in
      let t : (eqb (role C s.0) 0 && same_dims (C.kind s.0).dims (Some D.one)) ≡ true = not_true _ (refuse_given _ _ s.2) in
      let u : (eqb (role C o) 0 && same_dims (C.kind o).dims (Some D.one)) ≡ true = rw z at t in
      let n = linear_tells o (and_left (eqb (role C o) 0) _ u) in (
        record {
          below = find_below C.dimensionless l.1;
          linear = n.0;
          dims = same_dims_law (C.kind o).dims (Some D.one) (and_right (eqb (role C o) 0) _ u);
        },
        n.1,
      )

  -- ---- 16
  pub time_tells : (t : ℕ) → time_rule C ≡ given tt → K.time ≡ Some t → (point K t ≡ true) × (K.grade t ≡ 0)
  unfolding time_rule kinds_of
  time_tells t e p =
      let l = link_some C.time p in
      let s = bind_given (called C 0 C.time) _ (declared_given C.time _ l.0 e) in
      let z : s.0 ≡ t = cc (l.1, called_given 0 C.time s.1) in
      let u : (point K s.0 && eqb (C.kind s.0).grade 0) ≡ true = not_true _ (refuse_given _ _ s.2) in
      let v : (point K t && eqb (C.kind t).grade 0) ≡ true = rw z at u in
      (and_left (point K t) _ v, eqb-true (C.kind t).grade 0 (and_right (point K t) _ v))

  -- ---- 17 to 21
  aimed : (k s t d : ℕ) (a c : Dimensions) → s ≡ t → duration K ≡ Some d → K.dims d ≡ Some c → carries K (record { dims = D.or_one (D.product a c); grade = K.grade k }) s ≡ true
      → (e : ℕ) (b : Dimensions) → duration K ≡ Some e → K.dims e ≡ Some b → carries K (record { dims = D.or_one (D.product a b); grade = K.grade k }) t ≡ true
  aimed k s t d a c z p q h e b u v = let y : d ≡ e = cc in let x : c ≡ b = cc in rw (z, x) at h

  -- the duration is there and resolved
  abbrev pub Timed : Type 0
  Timed = (d : ℕ) × (b : Dimensions) × (duration K ≡ Some d) × (K.dims d ≡ Some b)

  pub rate_tells : (k t : ℕ) → k < C.kind_count → rate_rule C k ≡ given tt → K.rate_of k ≡ Some t → IsRate K k t × Timed × (rate_among C k t ≡ None)
  unfolding rate_rule
  rate_tells k t b e p =
      let l = link_some (C.kind k).rate_of (target_links k p) in
      let s = bind_given (called C k (C.kind k).rate_of) _ (declared_given (C.kind k).rate_of _ l.0 e) in
      let z : s.0 ≡ t = cc (l.1, called_given k (C.kind k).rate_of s.1) in
      let d = bind_given (needed (duration K) (NoTimeKind k s.0)) _ s.2 in
      let du : duration K ≡ Some d.0 = needed_given (duration K) _ d.1 in
      let pk = test_given (point K k) _ _ d.2 in
      let pt = test_given (point K s.0) _ _ pk.1 in
      let a = bind_given (operand K k) _ pt.1 in
      let g = then_given (operand K s.0) _ a.2 in
      let c = bind_given (operand K d.0) _ g.2 in
      let m = test_given (not (carries K (record { dims = (D.or_one (D.product a.0 c.0)); grade = K.grade k }) s.0)) _ _ c.2 in
      let n : K.difference s.0 ≡ None = some_false _ pt.0 in
      let f : rate_among C k s.0 ≡ None = found_given (rate_among C k s.0) _ m.1 in (
        record {
          below = (in_count b, in_count (find_below (C.kind k).rate_of l.1));
          no_points = (some_false _ pk.0, rw z at n);
          dims = a.0;
          resolved = operand_given K k a.1;
          fits = aimed k s.0 t d.0 a.0 c.0 z du (operand_given K d.0 c.1) (not_true _ m.0);
        },
        (d.0, c.0, du, operand_given K d.0 c.1),
        rw z at f,
      )

  -- 21: a target has one rate
  pub one_earlier : (j k t : ℕ) → rate_among C k t ≡ None → j < k → K.rate_of j ≡ Some t → ⊥
  unfolding rate_among kinds_of
  one_earlier j k t e h p = true≢false (sym (meant_self t p) ∙ first_misses (λ i. meant t (target_of C i)) k j e h)
