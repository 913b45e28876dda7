-- One image, compiled into lent words: they are a table, read as what was compiled, and calls over them answer as the rules over that do.
-- Assumes nothing.
use Prim.Native.Nat.{ℕ, ◌<◌, ◌≤◌}
use mathlib.Core.Path.{◌≡◌, refl, sym, ◌∙◌, ap, subst}
use mathlib.Core.List.{List}
use Rattle.std.specs.declared.option.Option.TheVariants.{Some}
use lib.ListN.{length}
use borrow.Author.Tests.{le-ltb, lt-ltb}
use Rattle.laws.specs.Out.{given, refused}
use Rattle.laws.specs.Ranges.{overlay}
use Rattle.laws.proofs.Checks.{then_given}
use Rattle.laws.proofs.Overlay.{overlay_length}
use Rattle.laws.proofs.Tab.{length_tab}
use Rattle.dimension.specs.declared.grade.ProductOp.{ProductOp}
use Rattle.dimension.specs.declared.grade.ProductOp.TheVariants.{Mul, Div, Dot, Wedge}
use Rattle.rules.specs.Kinds.{Kinds}
use Rattle.rules.specs.Refusal.{Refusal, Answer, Fault, at, NoProductKind, code_of}
use Rattle.rules.specs.Arithmetic as rule
use Rattle.rules.specs.Catalog.{catalog_in}
use Rattle.rules.specs.Compile.{Compiled}
use Rattle.rules.specs.Image.{compile_image, table_after, lent_check}
use Rattle.rules.specs.Table.{own_rows, table_word, table_words}
use Rattle.rules.specs.Table as table
use Rattle.rules.specs.Lookup.{roomy, tabled, combine}
use Rattle.rules.specs.Call.{formula_in, call}
use Rattle.guarantees.specs.Demand3.{Exactly45}
use Rattle.guarantees.specs.Images.{Bytes}
use Rattle.guarantees.specs.Calls.{call_over, product_over, fault, LookupExactly45}
use Rattle.guarantees.proofs.Laid.{LaidOut, image_tells, lent_room, few_kinds, few_rows}
use Rattle.guarantees.proofs.Declares.{quiet, grades, exponents}
use Rattle.guarantees.proofs.Images.{image_passes, image_compiled}
use Rattle.guarantees.proofs.Written.{Holds, written_holds}
use Rattle.guarantees.proofs.ReadBack.{Fits, kinds_back}
use Rattle.guarantees.proofs.InForce.{rows_back}
use Rattle.guarantees.proofs.IsTable.{is_table_law, are_rows_law}

pub image_fits : (s : List ℕ) → Bytes s → LaidOut s → Fits (catalog_in s)
unfolding catalog_in
image_fits s bytes laid = record { quiet = quiet s bytes laid; kinds = few_kinds s laid; rows = few_rows s laid; grade = grades s bytes laid; declared = exponents s bytes laid }

-- the image s, compiled into the words `old`
module _ (s old : List ℕ) (bytes : Bytes s) (c : Compiled) (e : compile_image s (length old) ≡ given c) where
  abbrev t : List ℕ
  t = table_after s old

  after : t ≡ overlay (table_words (catalog_in s)) old
  unfolding table_after
  after = rw (table_after, e)

  room : 9296 ≤ length old
  unfolding compile_image
  room = lent_room s (length old) (then_given (lent_check s (length old)) _ e).1

  words_long : length (table_words (catalog_in s)) ≡ 9296
  unfolding table_words
  words_long = length_tab (table_word (catalog_in s)) 9296

  long : 9296 ≤ length t
  long = rw (after, overlay_length (table_words (catalog_in s)) old (rw words_long room)) room

  pub table_holds : Holds t (catalog_in s)
  table_holds = subst (λ (w : List ℕ). Holds w (catalog_in s)) (sym after) (written_holds (catalog_in s) old)

  fits : Fits (catalog_in s)
  fits = image_fits s bytes (image_tells s (length old) c e).0

  -- the words are a table that is read as what was compiled
  pub table_kinds : table.kinds_of t ≡ c.kinds
  table_kinds = kinds_back t (catalog_in s) table_holds fits ∙ ap (λ (x : Compiled). x.kinds) (image_compiled s bytes (length old) c e)

  pub table_rows : table.rows_of (own_rows t) ≡ c.rows
  table_rows = rows_back t (catalog_in s) table_holds fits long (image_passes s bytes (length old) c e) ∙ ap (λ (x : Compiled). x.rows) (image_compiled s bytes (length old) c e)

  -- neither 5 nor 40 is said
  roomy_fine : (twins : List ℕ) → 240 ≤ length twins → roomy t twins ≡ given tt
  unfolding roomy
  roomy_fine twins h = rw (le-ltb (length t) 9296 long, le-ltb (length twins) 240 h)

  pub tabled_fine : tabled t (own_rows t) ≡ given tt
  unfolding tabled
  tabled_fine = rw (is_table_law t (catalog_in s) table_holds fits long, are_rows_law t (catalog_in s) table_holds fits long)

  module _ (twins : List ℕ) (enough : 240 ≤ length twins) where
    pub call_is : (tokens : List ℕ) → call_over s old twins tokens ≡ formula_in c.kinds c.rows tokens
    unfolding call
    call_is tokens = rw (roomy_fine twins enough, tabled_fine, table_kinds, table_rows)

    -- and a lone product is the rules' product
    op_known : (op : ProductOp) → rule.op_by (code_of op) ≡ Some (rule.multiplied op)
    unfolding rule.op_by
    op_known Mul = refl
    op_known Div = refl
    op_known Dot = refl
    op_known Wedge = refl

    index_fine : (K : Kinds) (k : ℕ) → k < K.count → rule.indexed K k ≡ given tt
    unfolding rule.indexed
    index_fine K k h = rw (lt-ltb k K.count h)

    pub product_is : (l : ℕ) (op : ProductOp) (r : ℕ) → l < c.kinds.count → r < c.kinds.count → product_over s old twins l op r ≡ at 0 (rule.product c.kinds c.rows l op r)
    unfolding combine rule.combine
    product_is l op r hl hr = rw (roomy_fine twins enough, tabled_fine, op_known op, table_kinds, table_rows, index_fine c.kinds l hl, index_fine c.kinds r hr)

    pub lookup_45 : Exactly45 c.kinds c.rows → LookupExactly45 c.kinds s old twins
    lookup_45 f l op r x hl hr h =
        let n = f l op r x hl hr h in
        let p = product_is l op r hl hr in
        (λ z. p ∙ ap (λ (m : Answer ℕ). at 0 m) (n.0 z), λ y q. n.1 y (at_refused 0 (rule.product c.kinds c.rows l op r) (NoProductKind y) (sym p ∙ q)))
      where
        at_refused : (i : ℕ) (m : Answer ℕ) (x : Refusal) → at i m ≡ refused (fault i x) → m ≡ refused x
        at_refused i (given k) x e = cc
        at_refused i (refused y) x e = let z : ◌≡◌ {A = Fault} (fault i y) (fault i x) = cc in ap (λ (f : Fault). refused f.refusal) z
