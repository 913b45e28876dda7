-- Demand 3, "the corollary in words of the functions: what two runs of the proved functions return": of what `run_both` returns for two images and a
-- formula. proofs/Demand3Returned shows it (`demand3_returned`).
use Rattle.std.specs.Prelude.{ℕ, ◌≡◌, Bool, true, List, ◌∷◌, ◌++◌, ltb, length}
use Rattle.std.specs.declared.result.Result.{Result}
use Rattle.std.specs.declared.result.Result.TheVariants.{Ok, Err}
use Rattle.laws.specs.Options.{is_some}
use Rattle.laws.specs.Out.{given}
use Rattle.dimension.specs.declared.grade.ProductOp.{ProductOp}
use Rattle.rules.specs.Kinds.{Kinds, Rows, Graded}
use Rattle.rules.specs.Refusal.{code_of}
use Rattle.rules.specs.Catalog.{catalog_in}
use Rattle.rules.specs.Compile.{Compiled}
use Rattle.rules.specs.Image.{compile_image}
use Rattle.rules.specs.Formula as rule
use Rattle.rules.specs.Token.{tokens_in, good_length}
use Rattle.guarantees.specs.Premises.{Scalars}
use Rattle.guarantees.specs.Images.{Bytes, SameKinds, MoreRows}
use Rattle.guarantees.specs.Demand3.{HasProduct, Exactly}
use Rattle.guarantees.specs.AtToken.{times_token, AtProduct}
use Rattle.error.specs.Shown.{fault}
use Rattle.error.specs.declared.cause.Error.{Error}
use Rattle.error.specs.declared.cause.Error.TheVariants.{UnresolvedTwin, NoProductKind}
use Rattle.error.specs.declared.fault.Fault.{Fault}
use Rattle.formula.specs.declared.terms.Term.{Term}
use Rattle.formula.specs.declared.terms.Term.TheVariants.{Number, Kind}
use Rattle.comparison.specs.declared.runs.Called.{Called}
use Rattle.comparison.specs.declared.runs.Both.{Both}

-- ---- the premises: s is the smaller image, l the larger, c and d what they compile into
pub record TwoImages (s l : List ℕ) (c d : Compiled) : Type 0 where
  pub bytes : Bytes s × Bytes l
  -- "both catalogs compile"
  pub compiles : compile_image s 9296 ≡ given c
  pub compiles_too : compile_image l 9296 ≡ given d
  -- "with the same list of kinds, dimensionless kind and time kind"
  pub same : SameKinds (catalog_in s) (catalog_in l)
  -- "the larger has every row of the smaller"
  pub more : MoreRows (catalog_in s) (catalog_in l)
  -- "the dimensionless and duration kinds, where declared, are scalar; each point kind has its difference kind's grade"
  pub scalars : Scalars c.kinds

-- ---- what is said of an answer
-- a 44 that these rows lift
pub record Lifted (rows : Rows) (e : Error) : Type 0 where
  pub left : ℕ
  pub op : ProductOp
  pub right : ℕ
  pub count : ℕ
  pub is_twin : e ≡ UnresolvedTwin left (code_of op) right count
  pub has_row : is_some (rows left op right) ≡ true

-- the answer is past token p: it is none of a refusal, or one at a later place
abbrev pub past_place : ℕ → Result Term Fault → Bool
past_place p (Ok t) = true
past_place p (Err f) = ltb p f.place

-- 45 at place p: no kind has the dimensions and grade of y
abbrev pub no_kind_answer : ℕ → Graded → Result Term Fault
no_kind_answer p y = Err (fault p (NoProductKind y.dims y.grade))

-- "Two non-point kinds whose product has a dimension and grade get "no product kind" exactly when no non-point kind carries both": wherever the
-- formula comes to a product of two kinds
abbrev pub Returns45 : Kinds → Rows → List ℕ → Result Term Fault → Type 0
Returns45 K rows bytes a = (before : List rule.Token) (l : ℕ) (op : ProductOp) (r : ℕ) (rest : List rule.Token) (below : List rule.Term) (x : Graded)
    → good_length bytes ≡ true → tokens_in bytes ≡ before ++ (times_token op ∷ rest) → AtProduct K rows before l op r rest below → HasProduct K l op r x
    → Exactly K (λ y. a ≡ no_kind_answer (length before) y) x

pub record Demand3Returned (c d : Compiled) (bytes : List ℕ) (r : Both) : Type 0 where
  -- both catalogs compile: what is returned is two calls
  pub small : Called
  pub large : Called
  pub ran_small : r.small ≡ Ok small
  pub ran_large : r.large ≡ Ok large
  -- "the kind or number it was given stays the same"
  pub kind_stays : (k : ℕ) → small.answer ≡ Ok (Kind k) → large.answer ≡ Ok (Kind k)
  pub number_stays : small.answer ≡ Ok Number → large.answer ≡ Ok Number
  -- "A kind so given has exactly the dimensions and grade calculated from the formula's leaves", and a number is one by calculation too
  pub kind_calculated : (k : ℕ) → small.answer ≡ Ok (Kind k) → rule.calculation c.kinds (tokens_in bytes) ≡ rule.answered (rule.meaning c.kinds (rule.Kind k))
  pub number_calculated : small.answer ≡ Ok Number → rule.calculation c.kinds (tokens_in bytes) ≡ rule.answered (rule.meaning c.kinds rule.Number)
  -- "An "unresolved twin" is lifted at its token exactly when the larger catalog has a row for that very left, operation and right"
  pub lifted : (p l : ℕ) (op : ProductOp) (m n : ℕ) → small.answer ≡ Err (fault p (UnresolvedTwin l (code_of op) m n)) → past_place p large.answer ≡ is_some (d.rows l op m)
  -- "otherwise it stays as it was, like every other refusal: number, place, what is returned and the twin list"
  pub otherwise : (f : Fault) → small.answer ≡ Err f → (Lifted d.rows f.error → ⊥) → (large.answer ≡ Err f) × (large.twins ≡ small.twins)
  pub no_kind : Returns45 c.kinds c.rows bytes small.answer × Returns45 d.kinds d.rows bytes large.answer
