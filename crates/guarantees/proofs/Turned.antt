-- A commutative row is also one for the turned pair: there the same is derived, and resolved. Assumes nothing.
use Prim.Native.Nat.{ℕ}
use mathlib.Core.Path.{◌≡◌, refl, sym, ◌∙◌, ap}
use mathlib.Core.Bool.{Bool, true, false, cond}
use Rattle.std.specs.declared.option.Option.{Option}
use Rattle.std.specs.declared.option.Option.TheVariants.{None, Some}
use lib.Dec.{eqb}
use borrow.Author.Tests.{eqb-true}
use Rattle.laws.specs.Options.{found}
use Rattle.dimension.specs.Dimension as D
use Rattle.dimension.specs.declared.dimensions.Dimensions.{Dimensions}
use Rattle.dimension.specs.declared.grade.ProductOp.{ProductOp}
use Rattle.dimension.specs.declared.grade.ProductOp.TheVariants.{Mul, Div, Dot, Wedge}
use Rattle.rules.specs.Kinds.{Kinds, Graded, duration}
use Rattle.rules.specs.Arithmetic.{neutral_by, neutral, rated_by, rated, resolve}
use Rattle.guarantees.specs.Premises.{IsRow}
use Rattle.guarantees.proofs.Derived.{derive_turned}

-- which of two places is d, and f of the other
place_turned : (d : ℕ) (f : ℕ → Option ℕ) (l r : ℕ)
    → cond (eqb l d) (f r) (cond (eqb r d) (f l) None) ≡ cond (eqb r d) (f l) (cond (eqb l d) (f r) None)
place_turned d f l r = go (eqb l d) refl (eqb r d) refl
  where
    go : (s : Bool) → eqb l d ≡ s → (t : Bool) → eqb r d ≡ t
        → cond (eqb l d) (f r) (cond (eqb r d) (f l) None) ≡ cond (eqb r d) (f l) (cond (eqb l d) (f r) None)
    go true p true q = let z : r ≡ l = eqb-true r d q ∙ sym (eqb-true l d p) in rw (p, q) (ap f z)
    go true p false q = rw (p, q)
    go false p true q = rw (p, q)
    go false p false q = rw (p, q)

neutral_turned : (op : ProductOp) (o l r : ℕ) → (op ≡ Div → ⊥) → neutral_by op o r l ≡ neutral_by op o l r
unfolding neutral_by
neutral_turned Mul o l r n = place_turned o Some l r
neutral_turned Div o l r n = absurd (n refl)
neutral_turned Dot o l r n = refl
neutral_turned Wedge o l r n = refl

rated_turned : (K : Kinds) (op : ProductOp) (d l r : ℕ) → (op ≡ Div → ⊥) → rated_by K op d r l ≡ rated_by K op d l r
unfolding rated_by
rated_turned K Mul d l r n = place_turned d K.rate_of l r
rated_turned K Div d l r n = absurd (n refl)
rated_turned K Dot d l r n = refl
rated_turned K Wedge d l r n = refl

found_same : (o : Option ℕ) (f g : ℕ → Option ℕ) → ((k : ℕ) → f k ≡ g k) → found o f None ≡ found o g None
found_same None f g h = refl
found_same (Some k) f g h = h k

module _ (K : Kinds) (l : ℕ) (op : ProductOp) (r : ℕ) (n : op ≡ Div → ⊥) where
  neutrals : neutral K r op l ≡ neutral K l op r
  unfolding neutral
  neutrals = found_same K.dimensionless (λ o. neutral_by op o r l) (λ o. neutral_by op o l r) (λ o. neutral_turned op o l r n)

  rates : rated K r op l ≡ rated K l op r
  unfolding rated
  rates = found_same (duration K) (λ d. rated_by K op d r l) (λ d. rated_by K op d l r) (λ d. rated_turned K op d l r n)

  pub resolve_turned : (x : Graded) → resolve K r op l x ≡ resolve K l op r x
  unfolding resolve
  resolve_turned x = rw (neutrals, rates)

  pub row_turned : ((k : ℕ) (a : Dimensions) → K.dims k ≡ Some a → D.Sound a) → {k : ℕ} → IsRow K l op r k → IsRow K r op l k
  row_turned sound {k} h = record {
    below = h.below;
    no_point = h.no_point;
    of = h.of;
    derived = derive_turned K sound l op r h.of n h.derived;
    carried = h.carried;
    several = rw (resolve_turned h.of) h.several;
  }
