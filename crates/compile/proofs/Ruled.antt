-- What a rule answers, step by step: refused at this step, or what the next ones answer. v is the answer, b what the code tested, p the record or
-- byte. Assumes nothing.
use Prim.Native.Nat.{ℕ, ◌<◌}
use mathlib.Core.Path.{◌≡◌, refl, sym, ◌∙◌}
use mathlib.Core.Bool.{Bool, true, false, true≢false}
use mathlib.Core.List.{List}
use Rattle.std.specs.declared.option.Option.{Option}
use Rattle.std.specs.declared.option.Option.TheVariants.{None, Some}
use Rattle.laws.specs.Options.{is_some, found}
use Rattle.laws.specs.Out.{given, refused, ◌>>=◌, ◌>>◌, refuse_if, refuse_found, needed}
use Rattle.dimension.specs.Dimension as D
use Rattle.dimension.specs.declared.dimensions.Dimensions.{Dimensions}
use Rattle.rules.specs.Kinds.{Kinds}
use Rattle.rules.specs.Layout.{kind_count}
use Rattle.rules.specs.Refusal as rule
use Rattle.rules.specs.Refusal.{Refusal, Unknown, UnresolvedDimensions}
use Rattle.rules.specs.Arithmetic.{operand}
use Rattle.rules.specs.Catalog.{Id, Catalog, catalog_in, blank, link, find}
use Rattle.rules.specs.Compile.{Checked, if_declared, called}
use Rattle.guarantees.proofs.KindRules.{find_below}
use Rattle.table.proofs.Links.{to_some, nowhere_none}
use Rattle.error.specs.Shown.{fault, error_of, fine}
use Rattle.std.specs.declared.result.Result.{Result}
use Rattle.std.specs.declared.result.Result.TheVariants.{Ok, Err}
use Rattle.error.specs.declared.fault.Fault.{Fault}
use Rattle.compile.specs.Shown.{ruled}

-- nothing to refuse
abbrev pub passes : Result (Unit {0}) Fault
passes = Ok tt

-- refused for x at p
abbrev pub no : Refusal → ℕ → Result (Unit {0}) Fault
no x p = Err (fault p (error_of x))

pub some_false : {A : Type 0} (o : Option A) → is_some o ≡ false → o ≡ None
some_false None e = refl
some_false (Some a) e = cc

pub some_true : (o : Option Dimensions) → is_some o ≡ true → o ≡ Some (found o (λ d. d) D.one)
some_true (Some d) e = refl
some_true None e = cc

unresolved : (K : Kinds) (k : ℕ) → is_some (K.dims k) ≡ false → operand K k ≡ refused (UnresolvedDimensions k)
unfolding operand
unresolved K k e = rw (some_false (K.dims k) e)

resolved : (K : Kinds) (k : ℕ) → is_some (K.dims k) ≡ true → operand K k ≡ given (found (K.dims k) (λ d. d) D.one)
unfolding operand
resolved K k e = rw (some_true (K.dims k) e)

-- what a declared id names is what is found
link_is : (C : Catalog) (id : Id) → blank id ≡ false → link C id ≡ find C id
unfolding link
link_is C id e = rw e

link_none : (C : Catalog) (id : Id) → blank id ≡ true → link C id ≡ None
unfolding link
link_none C id e = rw e

module _ (p : ℕ) {v : Result (Unit {0}) Fault} where
  pub ruled_given : {m : Checked} → m ≡ given tt → v ≡ passes → v ≡ ruled p m
  unfolding ruled fine
  ruled_given e h = rw e h

  pub ruled_refused : {m : Checked} (x : Refusal) → m ≡ refused x → v ≡ no x p → v ≡ ruled p m
  unfolding ruled fine
  ruled_refused x e h = rw e h

  -- ---- a rule m of any kind, and what follows it
  module _ {A : Type 0} {m : rule.Answer A} where
    pub then_refused : (n : Checked) (x : Refusal) → m ≡ refused x → v ≡ no x p → v ≡ ruled p (m >> n)
    then_refused n x e h = ruled_refused x (rw e) h

    pub then_passed : (n : Checked) {a : A} → m ≡ given a → v ≡ ruled p n → v ≡ ruled p (m >> n)
    then_passed n e h = rw e h

    pub bind_refused : (f : A → Checked) (x : Refusal) → m ≡ refused x → v ≡ no x p → v ≡ ruled p (m >>= f)
    bind_refused f x e h = ruled_refused x (rw e) h

    pub bind_passed : (f : A → Checked) {a : A} → m ≡ given a → v ≡ ruled p (f a) → v ≡ ruled p (m >>= f)
    bind_passed f e h = rw e h

  -- ---- a test t
  module _ {t b : Bool} (e : b ≡ t) (x : Refusal) where
    pub test_refused : (n : Checked) → b ≡ true → v ≡ no x p → v ≡ ruled p (refuse_if t x >> n)
    test_refused n q h = ruled_refused x (rw (sym e ∙ q)) h

    pub test_passed : (n : Checked) → b ≡ false → v ≡ ruled p n → v ≡ ruled p (refuse_if t x >> n)
    test_passed n q h = rw (sym e ∙ q) h

    -- the last one
    pub last_refused : b ≡ true → v ≡ no x p → v ≡ ruled p (refuse_if t x)
    last_refused q h = ruled_refused x (rw (sym e ∙ q)) h

    pub last_passed : b ≡ false → v ≡ passes → v ≡ ruled p (refuse_if t x)
    last_passed q h = ruled_given (rw (sym e ∙ q)) h

  -- ---- what is found is refused
  module _ {o : Option ℕ} (x : ℕ → Refusal) where
    pub found_refused : {a : ℕ} → o ≡ Some a → v ≡ no (x a) p → v ≡ ruled p (refuse_found o x)
    found_refused {a} e h = ruled_refused (x a) (rw e) h

    pub found_passed : o ≡ None → v ≡ passes → v ≡ ruled p (refuse_found o x)
    found_passed e h = ruled_given (rw e) h

  -- ---- what is needed
  module _ {A : Type 0} {o : Option A} (x : Refusal) (f : A → Checked) where
    pub needed_refused : o ≡ None → v ≡ no x p → v ≡ ruled p (needed o x >>= f)
    needed_refused e h = ruled_refused x (rw e) h

    pub needed_passed : {a : A} → o ≡ Some a → v ≡ ruled p (f a) → v ≡ ruled p (needed o x >>= f)
    needed_passed e h = rw e h

  -- ---- dimensions that are needed: 19. `only` where it is not needed what they are
  module _ (K : Kinds) (k : ℕ) {b : Bool} (e : b ≡ is_some (K.dims k)) where
    pub operand_refused : (f : Dimensions → Checked) → b ≡ false → v ≡ no (UnresolvedDimensions k) p → v ≡ ruled p (operand K k >>= f)
    operand_refused f q h = bind_refused f (UnresolvedDimensions k) (unresolved K k (sym e ∙ q)) h

    pub operand_passed : (f : Dimensions → Checked) → b ≡ true → v ≡ ruled p (f (found (K.dims k) (λ d. d) D.one)) → v ≡ ruled p (operand K k >>= f)
    operand_passed f q h = bind_passed f (resolved K k (sym e ∙ q)) h

    pub only_refused : (n : Checked) → b ≡ false → v ≡ no (UnresolvedDimensions k) p → v ≡ ruled p (operand K k >> n)
    only_refused n q h = then_refused n (UnresolvedDimensions k) (unresolved K k (sym e ∙ q)) h

    pub only_passed : (n : Checked) → b ≡ true → v ≡ ruled p n → v ≡ ruled p (operand K k >> n)
    only_passed n q h = then_passed n (resolved K k (sym e ∙ q)) h

  -- ---- the kind of an id: 12. u is what the code found
  module _ (C : Catalog) (id : Id) (i : ℕ) (f : ℕ → Checked) where
    module _ {u : Option ℕ} (l : u ≡ find C id) where
      pub called_unknown : u ≡ None → v ≡ no (Unknown i) p → v ≡ ruled p (called C i id >>= f)
      unfolding called
      called_unknown w h = needed_refused (Unknown i) f (nowhere_none (find C id) w l) h

      pub called_known : {k : ℕ} → u ≡ Some k → v ≡ ruled p (f k) → v ≡ ruled p (called C i id >>= f)
      unfolding called
      called_known w h = needed_passed (Unknown i) f (to_some (find C id) w l) h

    -- asked only where it is declared
    module _ {b : Bool} (e : b ≡ blank id) where
      pub id_blank : b ≡ true → v ≡ passes → v ≡ ruled p (if_declared id (called C i id >>= f))
      id_blank q h = ruled_given (rw (sym e ∙ q)) h

      module _ (q : b ≡ false) {u : Option ℕ} (l : u ≡ link C id) where
        pub id_unknown : u ≡ None → v ≡ no (Unknown i) p → v ≡ ruled p (if_declared id (called C i id >>= f))
        id_unknown w h = rw (sym e ∙ q) (called_unknown (rw (link_is C id (sym e ∙ q)) at l) w h)

        pub id_known : {k : ℕ} → u ≡ Some k → v ≡ ruled p (f k) → v ≡ ruled p (if_declared id (called C i id >>= f))
        id_known w h = rw (sym e ∙ q) (called_known (rw (link_is C id (sym e ∙ q)) at l) w h)

-- a kind that an id names is one of the image's
pub link_below : (s : List ℕ) (id : Id) {u : Option ℕ} {k : ℕ} → u ≡ link (catalog_in s) id → u ≡ Some k → k < kind_count s
unfolding catalog_in
link_below s id {u} {k} e p = go (blank id) refl
  where
    go : (b : Bool) → blank id ≡ b → k < kind_count s
    go true q = let y : None ≡ Some k = sym (link_none (catalog_in s) id q) ∙ to_some (link (catalog_in s) id) p e in let z : true ≡ false = cc in absurd (true≢false z)
    go false q = find_below (catalog_in s) id (sym (link_is (catalog_in s) id q) ∙ to_some (link (catalog_in s) id) p e)
