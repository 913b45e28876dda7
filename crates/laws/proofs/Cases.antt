-- Code that goes by branches meets a definition that goes by tests: at a return, `search cases` finds among what is known there which way each
-- test of the definition went. And what a test that holds, or doesn't, tells of its parts. Assumes nothing.
use Prim.Native.Nat.{ℕ}
use mathlib.Core.Path.{◌≡◌, refl, sym, ◌∙◌}
use mathlib.Core.Bool.{Bool, true, false, not, cond, ◌&&◌, ◌||◌}
use lib.Dec.{eqb}
use borrow.Author.Tests.{lt-ltb, le-ltb, le-leb, lt-leb, eq-eqb, ne_eqb}

module _ {A : Type 0} where
  pub cond_then : {b : Bool} {r x : A} (y : A) → b ≡ true → r ≡ x → r ≡ cond b x y
  cond_then {b} {r} {x} y p e = rw p e

  pub cond_else : {b : Bool} {r y : A} (x : A) → b ≡ false → r ≡ y → r ≡ cond b x y
  cond_else {b} {r} {y} x p e = rw p e

pub not_then : {b : Bool} → b ≡ false → not b ≡ true
not_then p = rw p

pub not_else : {b : Bool} → b ≡ true → not b ≡ false
not_else p = rw p

-- the code tested v, which a call returned for w
pub eq_via : {v w k : ℕ} → v ≡ w → v ≡ k → eqb w k ≡ true
eq_via {v} {w} {k} e p = eq-eqb w k (sym e ∙ p)

pub ne_via : {v w k : ℕ} → v ≡ w → (v ≡ k → ⊥) → eqb w k ≡ false
ne_via {v} {w} {k} e p = ne_eqb w k (λ q. p (e ∙ q))

pub true_via : {v w : Bool} → v ≡ w → v ≡ true → w ≡ true
true_via e p = sym e ∙ p

pub false_via : {v w : Bool} → v ≡ w → v ≡ false → w ≡ false
false_via e p = sym e ∙ p

pub ruleset cases = (
  cond_then,
  cond_else,
  not_then,
  not_else,
  lt-ltb,
  le-ltb,
  le-leb,
  lt-leb,
  eq-eqb,
  ne_eqb,
  eq_via,
  ne_via,
  true_via,
  false_via,
)

-- ---- a test of two parts
pub and_left : (s t : Bool) → (s && t) ≡ true → s ≡ true
and_left true t e = refl
and_left false t e = e

pub and_right : (s t : Bool) → (s && t) ≡ true → t ≡ true
and_right true t e = e
and_right false t e = cc

pub and_both : {s t : Bool} → s ≡ true → t ≡ true → (s && t) ≡ true
and_both p q = rw p q

pub or_neither : (s t : Bool) → (s || t) ≡ false → (s ≡ false) × (t ≡ false)
or_neither true t e = (cc, cc)
or_neither false t e = (refl, e)
