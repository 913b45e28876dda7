-- What is known once a rule of compilation has given something. Assumes nothing.
use Prim.Native.Nat.{ℕ, ◌<◌, ◌≤◌}
use mathlib.Core.Path.{◌≡◌, refl, sym}
use mathlib.Core.Bool.{Bool, true, false, cond, not, ◌&&◌, true≢false}
use mathlib.Core.List.{List, [], ◌∷◌}
use Rattle.std.specs.declared.option.Option.{Option}
use Rattle.std.specs.declared.option.Option.TheVariants.{None, Some}
use native.Mathlib.Omega.{arith}
use lib.ListN.{length}
use borrow.Author.Tests.{eqb-true}
use Rattle.laws.specs.Options.{is_some}
use Rattle.laws.specs.Out.{Out, given, refused, ◌>>◌, refuse_if}
use Rattle.laws.proofs.Checks.{each_given}
use Rattle.dimension.specs.declared.dimensions.Dimensions.{Dimensions}
use Rattle.dimension.proofs.DimensionLaws as L
use Rattle.rules.specs.Kinds.{Graded}
use Rattle.rules.specs.Refusal.{Answer, at}
use Rattle.rules.specs.Catalog.{Id, blank, Catalog, meant}
use Rattle.rules.specs.Compile.{Checked, if_declared, same_dims, several, each_record}

module _ {E A : Type 0} where
  -- a test made first
  pub test_given : (t : Bool) (x : E) (n : Out E A) {a : A} → (refuse_if t x >> n) ≡ given a → (t ≡ false) × (n ≡ given a)
  test_given true x n e = let z : true ≡ false = cc in absurd (true≢false z)
  test_given false x n e = (refl, e)

pub at_given : {A : Type 0} (p : ℕ) (m : Answer A) {a : A} → at p m ≡ given a → m ≡ given a
at_given p (given b) e = cc
at_given p (refused x) e = cc

-- a rule for each record
pub record_given : (C : Catalog) (rule : ℕ → Checked) (n : ℕ) → each_record C rule n ≡ given tt → (k : ℕ) → k < n → rule k ≡ given tt
record_given C rule n e k h = at_given k (rule k) (each_given (λ k. at k (rule k)) n k e h)

-- a rule for what is declared
pub declared_given : (id : Id) (rule : Checked) {u : Unit {0}} → blank id ≡ false → if_declared id rule ≡ given u → rule ≡ given u
declared_given id rule p e = rw p at e

pub several_given : (C : Catalog) (s : List ℕ) (x : Graded) {u : Unit {0}} → several C s x ≡ given u → 2 ≤ length s
several_given C [] x e = let z : true ≡ false = cc in absurd (true≢false z)
several_given C (k ∷ []) x e = let z : true ≡ false = cc in absurd (true≢false z)
several_given C (k ∷ m ∷ ks) x e = omega arith

-- a rule for some records alone
pub cond_given : (t : Bool) (m : Checked) {u : Unit {0}} → t ≡ true → cond t m (given tt) ≡ given u → m ≡ given u
cond_given true m p e = e
cond_given false m p e = absurd (true≢false (sym p))

-- ---- tests
pub not_true : (t : Bool) → not t ≡ false → t ≡ true
not_true true e = refl
not_true false e = cc

pub and_apart : (s t : Bool) → (s && t) ≡ false → s ≡ true → t ≡ false
and_apart true t e p = e
and_apart false t e p = cc

pub some_false : {A : Type 0} (o : Option A) → is_some o ≡ false → o ≡ None
some_false None e = refl
some_false (Some a) e = cc

pub same_dims_law : (a b : Option Dimensions) → same_dims a b ≡ true → a ≡ b
same_dims_law None None e = refl
same_dims_law None (Some b) e = cc
same_dims_law (Some a) None e = cc
same_dims_law (Some a) (Some b) e = let z : a ≡ b = L.equal_same a b e in rw z

pub meant_is : (k : ℕ) (o : Option ℕ) → meant k o ≡ true → o ≡ Some k
meant_is k None e = cc
meant_is k (Some j) e = let z : j ≡ k = eqb-true j k e in rw z

pub agreed_some : {A : Type 0} {o : Option A} {a b : A} → o ≡ Some a → o ≡ Some b → a ≡ b
agreed_some p q = cc
