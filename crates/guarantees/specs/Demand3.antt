-- Demand 3, one claim about a whole token list: the same tokens over the same kinds K, with the rows of the smaller and of the larger catalog. Its
-- first sentence, "Every formula is answered as 01's steps say", is what the contract of the formula's function says. The proof is in proofs/.
use Rattle.std.specs.Prelude.{ℕ, ◌<◌, ◌≡◌, true, false, List, ◌∷◌, ◌++◌, length}
use Rattle.std.specs.declared.option.Option.TheVariants.{None, Some}
use Rattle.laws.specs.Options.{is_some}
use Rattle.laws.specs.Out.{refused}
use Rattle.dimension.specs.declared.dimensions.Dimensions.{Dimensions}
use Rattle.dimension.specs.declared.grade.ProductOp.{ProductOp}
use Rattle.rules.specs.Kinds.{Kinds, Rows, Graded, carries}
use Rattle.rules.specs.Refusal.{Refusal, UnresolvedTwin, NoProductKind}
use Rattle.rules.specs.Arithmetic.{grade_by, joined, product}
use Rattle.rules.specs.Formula.{Token, Term, meaning, answered, stopped, malformed, formula, calculation}
use Rattle.guarantees.specs.Reached.{past}
use Rattle.guarantees.specs.Larger.{lifts}
use Rattle.guarantees.specs.AtToken.{times_token, AtProduct, LiftedTo}

-- "no non-point kind carries both"
abbrev pub NoneCarries : Kinds → Graded → Type 0
NoneCarries K x = (k : ℕ) → k < K.count → K.difference k ≡ None → carries K x k ≡ true → ⊥

-- "Two non-point kinds whose product has a dimension and grade": "both kinds' dimensions are given and the grade rule answers"
pub record HasProduct (K : Kinds) (l : ℕ) (op : ProductOp) (r : ℕ) (x : Graded) : Type 0 where
  pub no_points : (K.difference l ≡ None) × (K.difference r ≡ None)
  pub left : Dimensions
  pub right : Dimensions
  pub gives_left : K.dims l ≡ Some left
  pub gives_right : K.dims r ≡ Some right
  pub dims : x.dims ≡ joined op left right
  pub grade : grade_by K op (K.grade l) (K.grade r) ≡ Some x.grade

-- "no product kind" is said of x where none carries it; and where it is said of any y, this is x and none carries it
abbrev pub Exactly : Kinds → (Graded → Type 0) → Graded → Type 0
Exactly K Said x = (NoneCarries K x → Said x) × ((y : Graded) → Said y → (y ≡ x) × NoneCarries K x)

-- 45 "holds for every product lookup, alone or in a formula": alone, 41 left out
abbrev pub Exactly45 : Kinds → Rows → Type 0
Exactly45 K rows = (l : ℕ) (op : ProductOp) (r : ℕ) (x : Graded) → l < K.count → r < K.count → HasProduct K l op r x
    → Exactly K (λ y. product K rows l op r ≡ refused (NoProductKind y)) x

-- and where a formula comes to a product of two kinds
abbrev pub Exactly45At : Kinds → Rows → List Token → Type 0
Exactly45At K rows toks = (before : List Token) (l : ℕ) (op : ProductOp) (r : ℕ) (rest : List Token) (below : List Term) (x : Graded)
    → toks ≡ before ++ (times_token op ∷ rest) → AtProduct K rows before l op r rest below → HasProduct K l op r x
    → Exactly K (λ y. formula K rows toks ≡ stopped (length before) (NoProductKind y)) x

pub record Demand3 (K : Kinds) (small large : Rows) (toks : List Token) : Type 0 where
  -- "Whatever operation rows are added, the kind or number it was given stays the same."
  pub stays : (t : Term) → formula K small toks ≡ answered t → formula K large toks ≡ answered t
  -- "A kind so given has exactly the dimensions and grade calculated from the formula's leaves", and a number is one by calculation too
  pub calculated : (t : Term) → formula K small toks ≡ answered t → calculation K toks ≡ answered (meaning K t)
  -- "An "unresolved twin" is lifted at its token exactly when the larger catalog has a row for that very left, operation and right": the larger
  -- comes past the token exactly then, going on with the row's kind
  pub lifted : (p l : ℕ) (op : ProductOp) (r : ℕ) (ks : List ℕ) → formula K small toks ≡ stopped p (UnresolvedTwin l op r ks)
      → past p (formula K large toks) ≡ is_some (large l op r)
  pub lifted_to : (p l : ℕ) (op : ProductOp) (r k : ℕ) (ks : List ℕ) → formula K small toks ≡ stopped p (UnresolvedTwin l op r ks) → large l op r ≡ Some k
      → LiftedTo K small large toks p l op r k
  -- "otherwise it stays as it was, like every other refusal: number, place, what is returned and the twin list", all of which p and x tell
  pub otherwise : (p : ℕ) (x : Refusal) → formula K small toks ≡ stopped p x → lifts large x ≡ false → formula K large toks ≡ stopped p x
  -- 50
  pub malformed_stays : (p : ℕ) → formula K small toks ≡ malformed p → formula K large toks ≡ malformed p
  -- "Two non-point kinds whose product has a dimension and grade get "no product kind" exactly when no non-point kind carries both."
  pub no_kind : Exactly45 K small × Exactly45 K large
  pub no_kind_at : Exactly45At K small toks × Exactly45At K large toks
