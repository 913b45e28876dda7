-- What is listed of a refusal's twins: `new` is the lent list after, `old` before. Assumes nothing.
use Prim.Native.Nat.{ℕ}
use mathlib.Core.Path.{◌≡◌, refl}
use mathlib.Core.Bool.{Bool, true, false, cond}
use mathlib.Core.List.{List, []}
use Rattle.std.specs.declared.option.Option.{Option}
use Rattle.std.specs.declared.result.Result.{Result}
use Rattle.std.specs.declared.result.Result.TheVariants.{Ok, Err}
use lib.Dec.{ltb}
use lib.ListN.{length}
use Rattle.dimension.specs.Dimension as D
use Rattle.dimension.specs.declared.rational.Rational.{Rational}
use Rattle.dimension.specs.declared.dimensions.Dimensions.{Dimensions}
use Rattle.dimension.specs.declared.grade.ProductOp.{ProductOp}
use Rattle.rules.specs.Kinds.{Kinds, candidates}
use Rattle.rules.specs.Arithmetic as rule
use Rattle.error.specs.declared.cause.Error.{Error}
use Rattle.fitting.specs.Shown.{at, room_listed}
use Rattle.joined.specs.Shown.{dims_at}
use Rattle.derive.specs.Shown.{derived}
use Rattle.derive.specs.declared.derivation.Graded.{Graded}
use Rattle.derive.proofs.Derives.{given_told, refused_told}
use Rattle.lookup.specs.Shown.{fits_derived}

-- nothing to list leaves the list as it was
pub list_none : (old : List ℕ) → old ≡ room_listed [] old
unfolding room_listed
list_none old = go (ltb (length old) 240)
  where
    go : (b : Bool) → old ≡ cond b old old
    go true = refl
    go false = refl

module _ (K : Kinds) (l : ℕ) (op : ProductOp) (r : ℕ) (old : List ℕ) where
  pub product_none : {v : Result Graded Error} {e : Error} → v ≡ derived (rule.derive K l op r) → v ≡ Err e → old ≡ room_listed (fits_derived K l op r) old
  unfolding fits_derived
  product_none e p = rw (fits_derived, (refused_told (rule.derive K l op r) p e).1) (list_none old)

  pub product_listed : {d : Dimensions} {g : ℕ} {new : List ℕ} → Ok (record { dims = d; grade = g }) ≡ derived (rule.derive K l op r) → new ≡ room_listed (candidates K (at d g)) old
      → new ≡ room_listed (fits_derived K l op r) old
  unfolding fits_derived
  product_listed e h = rw (fits_derived, given_told (rule.derive K l op r) refl e) h

pub power_listed : (K : Kinds) (k : ℕ) (e : Rational) (old : List ℕ) {new : List ℕ} {d : Dimensions} {o : Option Dimensions} → d ≡ dims_at K k → o ≡ D.power d e
    → new ≡ room_listed (candidates K (at (D.or_one o) 0)) old → new ≡ room_listed (candidates K (at (D.or_one (D.power (dims_at K k) e)) 0)) old
power_listed K k e old p q h = rw (← p, ← q) h

pub ruleset listing = (product_none, product_listed, power_listed)
