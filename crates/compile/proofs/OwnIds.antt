-- 10 and 11: an id is empty, or an earlier kind has it. Assumes nothing.
use Prim.Native.Nat.{ℕ, ◌<◌}
use mathlib.Core.Path.{◌≡◌, refl, sym, ◌∙◌}
use mathlib.Core.Bool.{Bool, true, false, true≢false}
use mathlib.Core.List.{List}
use Rattle.std.specs.declared.option.Option.{Option}
use Rattle.std.specs.declared.option.Option.TheVariants.{None, Some}
use native.Mathlib.Omega.{arith}
use borrow.Author.Tests.{ltb-true, ltb-false}
use lib.Dec.{ltb}
use Rattle.laws.specs.Options.{is_some}
use Rattle.laws.specs.Ranges.{first}
use Rattle.rules.specs.Layout.{kind_count}
use Rattle.rules.specs.Refusal.{EmptyId, Duplicate}
use Rattle.rules.specs.Catalog.{Catalog, id_at, kind_at, kind_from, catalog_in, blank, same, find}
use Rattle.rules.specs.Compile.{id_rule}
use Rattle.table.proofs.Links.{to_some, nowhere_none}
use Rattle.catalog.proofs.Found.{kind_in_law}
use Rattle.error.specs.Shown.{fault}
use Rattle.std.specs.declared.result.Result.{Result}
use Rattle.std.specs.declared.result.Result.TheVariants.{Ok, Err}
use Rattle.error.specs.declared.fault.Fault.{Fault}
use Rattle.error.specs.declared.cause.Error.TheVariants as cause
use Rattle.compile.specs.Shown.{ruled, repeated}
use Rattle.compile.proofs.Firsts.{first_fewer, first_before, first_after}
use Rattle.compile.proofs.Ruled.{some_false, test_refused, test_passed, found_refused, found_passed}

module _ (s : List ℕ) (k : ℕ) {q : ℕ} (a : q ≡ kind_at k) (l : k < kind_count s) where
  -- the id at kind k's place is its own
  id_at_law : id_at s q ≡ ((catalog_in s).kind k).id
  unfolding kind_from
  id_at_law = rw (kind_in_law s k l, a)

  -- ---- u is the first kind of the id
  module _ {u : Option ℕ} (e : u ≡ find (catalog_in s) (id_at s q)) where
    found_first : {o : Option ℕ} → find (catalog_in s) (id_at s q) ≡ o → first (λ j. same ((catalog_in s).kind j).id ((catalog_in s).kind k).id) (kind_count s) ≡ o
    unfolding find catalog_in
    found_first p = rw id_at_law at p

    pub repeated_first : {j : ℕ} → u ≡ Some j → ltb j k ≡ repeated (catalog_in s) k
    unfolding repeated
    repeated_first {j} w = go (ltb j k) refl
      where
        f : first (λ j. same ((catalog_in s).kind j).id ((catalog_in s).kind k).id) (kind_count s) ≡ Some j
        f = found_first (to_some _ w e)

        go : (b : Bool) → ltb j k ≡ b → ltb j k ≡ is_some (first (λ j. same ((catalog_in s).kind j).id ((catalog_in s).kind k).id) k)
        go true p = rw (first_before _ k (kind_count s) f (ltb-true j k p) (omega arith)) p
        go false p = rw (first_after _ k (kind_count s) f (ltb-false j k p)) p

    pub repeated_none : u ≡ None → false ≡ repeated (catalog_in s) k
    unfolding repeated
    repeated_none w = rw (first_fewer _ k (kind_count s) (omega arith) (found_first (nowhere_none _ w e)))

  pub own_blank : {b : Bool} → b ≡ blank (id_at s q) → b ≡ blank ((catalog_in s).kind k).id
  own_blank e = rw id_at_law at e

-- ---- the rule
-- the first kind before k with its id
abbrev earlier : Catalog → ℕ → Option ℕ
earlier C k = first (λ j. same (C.kind j).id (C.kind k).id) k

some_found : (o : Option ℕ) → is_some o ≡ true → (j : ℕ) × (o ≡ Some j)
some_found (Some j) e = (j, refl)
some_found None e = absurd (true≢false (sym e))

module _ (C : Catalog) (k : ℕ) {b : Bool} (e : b ≡ blank (C.kind k).id) where
  pub id_empty : {v : Result (Unit {0}) Fault} → b ≡ true → v ≡ Err (fault k (cause.EmptyId k)) → v ≡ ruled k (id_rule C k)
  unfolding id_rule
  id_empty p h = test_refused k e (EmptyId k) _ p h

  module _ (p : b ≡ false) {c : Bool} (f : c ≡ repeated C k) where
    pub id_repeated : {v : Result (Unit {0}) Fault} → c ≡ true → v ≡ Err (fault k (cause.Duplicate k)) → v ≡ ruled k (id_rule C k)
    unfolding id_rule repeated
    id_repeated q h = test_passed k e (EmptyId k) _ p (found_refused k (λ j. Duplicate k) (some_found (earlier C k) (sym f ∙ q)).1 h)

    pub id_own : c ≡ false → Ok tt ≡ ruled k (id_rule C k)
    unfolding id_rule repeated
    id_own q = test_passed k e (EmptyId k) _ p (found_passed k (λ j. Duplicate k) (some_false (earlier C k) (sym f ∙ q)) refl)

pub ruleset own = (repeated_first, repeated_none, own_blank, id_empty, id_repeated, id_own)
