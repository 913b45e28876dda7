-- What kindcheck prints, in terms of one compilation into words of its own and one run over them. Assumes nothing.
use Prim.Native.Nat.{ℕ}
use mathlib.Core.Path.{◌≡◌, refl, sym, ◌∙◌, ap}
use mathlib.Core.Bool.{true, false, true≢false}
use mathlib.Core.List.{List}
use lib.ListN.{length}
use Rattle.std.specs.declared.option.Option.{Option}
use Rattle.std.specs.declared.result.Result.{Result}
use Rattle.std.specs.declared.result.Result.TheVariants.{Ok, Err}
use Rattle.laws.specs.Out.{given, refused}
use Rattle.rules.specs.Refusal.{Fault, Placed}
use Rattle.rules.specs.Compile.{Compiled}
use Rattle.rules.specs.Image.{compile_image, table_after}
use Rattle.rules.specs.Table.{kinds_of, rows_of, own_rows, table_size}
use Rattle.rules.specs.Call.{formula_in}
use Rattle.rules.specs.Report.{image_part, formula_part, checked, kindcheck}
use Rattle.guarantees.specs.Images.{Bytes}
use Rattle.guarantees.proofs.Lent.{table_kinds, table_rows}
use Rattle.error.specs.declared.fault.Fault as code
use Rattle.error.specs.Shown.{fault_of}
use Rattle.formula.specs.Shown.{termed}
use Rattle.formula.specs.declared.terms.Term.{Term}
use Rattle.compile.specs.Shown.{compiled}
use Rattle.printed.specs.Shown.{written, of_formula, line_of}
use Rattle.printed.specs.declared.text.Line.{Line}
use Rattle.printed.proofs.Told.{line_termed}

module _ (s bytes : List ℕ) where
  pub checked_refused : {x : Fault} → compile_image s table_size ≡ refused x → checked s bytes ≡ refused x
  unfolding checked
  checked_refused e = rw e

  -- the run is over the words that the compilation wrote over `old`
  pub checked_given : (old : List ℕ) (c : Compiled) → Bytes s → length old ≡ table_size → compile_image s table_size ≡ given c
      → checked s bytes ≡ formula_in (kinds_of (table_after s old)) (rows_of (own_rows (table_after s old))) bytes
  unfolding checked
  checked_given old c b l e =
      let d : compile_image s (length old) ≡ given c = rw l e in
      rw (e, table_kinds s old b c d, table_rows s old b c d)

  -- ---- what the program answers: the compilation's refusal, or the run's answer v
  pub stops : {x : code.Fault} → Err x ≡ compiled (compile_image s table_size) → Err x ≡ termed (checked s bytes)
  unfolding checked compiled termed
  stops {x} e = go (compile_image s table_size) refl
    where
      go : (m : Placed Compiled) → compile_image s table_size ≡ m → Err x ≡ termed (checked s bytes)
      go (given c) q = let p = rw q at e in let y : true ≡ false = cc in absurd (true≢false y)
      go (refused f) q = let p = rw q at e in let z : x ≡ fault_of f = cc in ap (λ (y : code.Fault). Err y) z ∙ ap termed (sym (checked_refused q))

  pub runs : (old : List ℕ) {u : Unit {0}} {v : Result Term code.Fault} {t rows : List ℕ} → Bytes s → length old ≡ table_size → Ok u ≡ compiled (compile_image s table_size) → t ≡ table_after s old → rows ≡ own_rows t
      → v ≡ termed (formula_in (kinds_of t) (rows_of rows) bytes) → v ≡ termed (checked s bytes)
  unfolding compiled
  runs old {u} {v} b l e h q r = go (compile_image s table_size) refl
    where
      go : (m : Placed Compiled) → compile_image s table_size ≡ m → v ≡ termed (checked s bytes)
      go (refused f) z = let p = rw z at e in let y : true ≡ false = cc in absurd (true≢false y)
      go (given c) z = r ∙ rw (q, h) (ap termed (sym (checked_given old c b l z)))

pub prints : (input : List ℕ) {i f : List ℕ} {r : Line} {v : Result Term code.Fault} {w : Result (Option Term) code.Fault} → i ≡ image_part input → f ≡ formula_part input → v ≡ termed (checked i f) → w ≡ of_formula v → r ≡ written (line_of i w) → r ≡ written (kindcheck input)
unfolding kindcheck
prints input {i} {f} p q e o h =
    h ∙ ap (λ (a : Result (Option Term) code.Fault). written (line_of i a)) o ∙ ap (λ (a : Result Term code.Fault). written (line_of i (of_formula a))) e ∙ ap written (line_termed i (checked i f)) ∙ rw (p, q)
