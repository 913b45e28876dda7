-- Demand 3 over what is lent: "Both runs take the same tokens and equal twin lists, each over its own compilation's table and rows".
use Rattle.std.specs.Prelude.{ℕ, ◌<◌, ◌≤◌, ◌≡◌, Bool, true, false, List, ◌∷◌, ◌++◌, ltb, length}
use Rattle.laws.specs.Options.{is_some}
use Rattle.laws.specs.Out.{given, refused}
use Rattle.dimension.specs.declared.grade.ProductOp.{ProductOp}
use Rattle.rules.specs.Kinds.{Kinds, Rows, Graded}
use Rattle.rules.specs.Refusal.{Refusal, Fault, Placed, UnresolvedTwin, NoProductKind, code_of, twins_after}
use Rattle.rules.specs.Catalog.{catalog_in}
use Rattle.rules.specs.Compile.{Compiled}
use Rattle.rules.specs.Image.{compile_image, table_after}
use Rattle.rules.specs.Table.{own_rows}
use Rattle.rules.specs.Lookup.{combine}
use Rattle.rules.specs.Formula.{Token, Term, meaning, answered, calculation}
use Rattle.rules.specs.Token.{tokens_in, good_length}
use Rattle.rules.specs.Call.{call}
use Rattle.guarantees.specs.Larger.{lifts}
use Rattle.guarantees.specs.AtToken.{times_token, AtProduct}
use Rattle.guarantees.specs.Premises.{Scalars}
use Rattle.guarantees.specs.Demand3.{HasProduct, Exactly}
use Rattle.guarantees.specs.Images.{Bytes, SameKinds, MoreRows}

-- a formula over the table that compiling the image s leaves in the lent words `old`, with the rows of that table
abbrev pub call_over : List ℕ → List ℕ → List ℕ → List ℕ → Placed Term
call_over s old twins bytes = call (table_after s old) (own_rows (table_after s old)) twins bytes

-- a lone product over the same
abbrev pub product_over : List ℕ → List ℕ → List ℕ → ℕ → ProductOp → ℕ → Placed ℕ
product_over s old twins l op r = combine (table_after s old) (own_rows (table_after s old)) twins (code_of op) l r

-- the answer is past token p
abbrev pub past_token : ℕ → Placed Term → Bool
past_token p (given x) = true
past_token p (refused f) = ltb p f.place

-- a refusal at a place
abbrev pub fault : ℕ → Refusal → Fault
fault p x = record { place = p; refusal = x }

-- `small` and `large` are the answers of the two calls, over the kinds K; `rows` are the larger's
pub record CallsKept (K : Kinds) (rows : Rows) (bytes : List ℕ) (small large : Placed Term) : Type 0 where
  -- "the kind or number it was given stays the same"
  pub stays : (x : Term) → small ≡ given x → large ≡ given x
  -- "exactly the dimensions and grade calculated from the formula's leaves"
  pub calculated : (x : Term) → small ≡ given x → calculation K (tokens_in bytes) ≡ answered (meaning K x)
  -- "lifted at its token exactly when the larger catalog has a row for that very left, operation and right"
  pub lifted : (p l : ℕ) (op : ProductOp) (r : ℕ) (ks : List ℕ) → small ≡ refused (fault p (UnresolvedTwin l op r ks)) → past_token p large ≡ is_some (rows l op r)
  -- "otherwise it stays as it was, like every other refusal: number, place, what is returned and the twin list": the fault f has the first three,
  -- and 50 is one of them
  pub otherwise : (f : Fault) → small ≡ refused f → lifts rows f.refusal ≡ false → large ≡ refused f
  pub twin_list : (f : Fault) (lent : List ℕ) → small ≡ refused f → lifts rows f.refusal ≡ false → twins_after large lent ≡ twins_after small lent

-- 45, of every lone product over a compilation's own table and rows that 5 and 41 do not refuse
abbrev pub LookupExactly45 : Kinds → List ℕ → List ℕ → List ℕ → Type 0
LookupExactly45 K s old twins = (l : ℕ) (op : ProductOp) (r : ℕ) (x : Graded) → l < K.count → r < K.count → HasProduct K l op r x
    → Exactly K (λ y. product_over s old twins l op r ≡ refused (fault 0 (NoProductKind y))) x

-- and of every product of two kinds that a call comes to
abbrev pub CallExactly45 : Kinds → Rows → List ℕ → Placed Term → Type 0
CallExactly45 K rows bytes answer = (before : List Token) (l : ℕ) (op : ProductOp) (r : ℕ) (rest : List Token) (below : List Term) (x : Graded)
    → good_length bytes ≡ true → tokens_in bytes ≡ before ++ (times_token op ∷ rest) → AtProduct K rows before l op r rest below → HasProduct K l op r x
    → Exactly K (λ y. answer ≡ refused (fault (length before) (NoProductKind y))) x

-- ---- the premises, in one piece: the image s is compiled into the lent words `old`, and the larger image l into others
pub record TwoCatalogs (s l old old-too twins : List ℕ) (c d : Compiled) : Type 0 where
  pub bytes : Bytes s × Bytes l
  -- "both catalogs compile"
  pub compiles : compile_image s (length old) ≡ given c
  pub compiles_too : compile_image l (length old-too) ≡ given d
  -- "with the same list of kinds, dimensionless kind and time kind"
  pub same : SameKinds (catalog_in s) (catalog_in l)
  -- "the larger has every row of the smaller"
  pub more : MoreRows (catalog_in s) (catalog_in l)
  -- "the dimensionless and duration kinds, where declared, are scalar; each point kind has its difference kind's grade"
  pub scalars : Scalars c.kinds
  -- the twin list, which 5 does not refuse
  pub enough : 240 ≤ length twins

-- and demand 3, in one piece
pub record Demand3Calls (s l old old-too twins : List ℕ) (c d : Compiled) : Type 0 where
  pub kept : (tokens : List ℕ) → CallsKept c.kinds d.rows tokens (call_over s old twins tokens) (call_over l old-too twins tokens)
  pub lookups : LookupExactly45 c.kinds s old twins × LookupExactly45 d.kinds l old-too twins
  pub products : (tokens : List ℕ) → CallExactly45 c.kinds c.rows tokens (call_over s old twins tokens) × CallExactly45 d.kinds d.rows tokens (call_over l old-too twins tokens)
