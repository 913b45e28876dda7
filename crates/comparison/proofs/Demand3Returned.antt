-- Demand 3 of what two runs return. Assumes nothing.
use Prim.Native.Nat.{ℕ, ◌≤◌}
use mathlib.Core.Path.{◌≡◌, refl, sym, ◌∙◌, ap}
use mathlib.Core.List.{List}
use native.Mathlib.Omega.{arith}
use lib.ListN.{length, length-replicate}
use Rattle.std.specs.declared.result.Result.TheVariants.{Ok, Err}
use Rattle.laws.specs.Options.{is_some}
use Rattle.laws.specs.Out.{given, refused}
use Rattle.dimension.specs.declared.grade.ProductOp.{ProductOp}
use Rattle.rules.specs.Kinds.{Kinds, Rows}
use Rattle.rules.specs.Refusal.{Refusal, Placed, twins_after, code_of}
use Rattle.rules.specs.Compile.{Compiled}
use Rattle.rules.specs.Formula as rule
use Rattle.rules.specs.Image.{compile_image}
use Rattle.guarantees.specs.Calls as by_rules
use Rattle.guarantees.specs.Calls.{call_over, past_token, CallsKept, CallExactly45, TwoCatalogs, Demand3Calls}
use Rattle.guarantees.proofs.Calls.{demand3_calls}
use Rattle.error.specs.Shown.{fault}
use Rattle.error.specs.declared.cause.Error.TheVariants as code
use Rattle.error.specs.declared.fault.Fault.{Fault}
use Rattle.formula.specs.Shown.{termed}
use Rattle.comparison.specs.declared.runs.Both.{Both}
use Rattle.comparison.specs.declared.runs.Called.{Called}
use Rattle.comparison.specs.Shown.{blank_table, blank_twins, called, called_over, run_of, both_of}
use Rattle.comparison.specs.Returned.{TwoImages, Lifted, past_place, Returns45, Demand3Returned}
use Rattle.comparison.proofs.Answered.{term_given, error_given, twin_given, unlifted, no_kind_given}

-- ---- two answers by the rules, and what is returned of them
module _ (c d : Compiled) (bytes : List ℕ) (m n : Placed rule.Term) (kept : CallsKept c.kinds d.rows bytes m n) where
  past_same : (p : ℕ) (o : Placed rule.Term) → past_place p (termed o) ≡ past_token p o
  unfolding termed
  past_same p (given x) = refl
  past_same p (refused f) = refl

  lifted : (p l : ℕ) (op : ProductOp) (r k : ℕ) → termed m ≡ Err (fault p (code.UnresolvedTwin l (code_of op) r k)) → past_place p (termed n) ≡ is_some (d.rows l op r)
  lifted p l op r k e =
      let f = error_given m p _ e in
      let t = twin_given f.0 l op r k f.2 in
      past_same p n ∙ kept.lifted p l op r t.0 (f.1 ∙ ap (λ (x : Refusal). refused (by_rules.fault p x)) t.1)

  same_answer : (f : Fault) → termed m ≡ Err f → (Lifted d.rows f.error → ⊥) → n ≡ m
  same_answer f e h =
      let x = error_given m f.place f.error e in
      kept.otherwise _ x.1 (unlifted d.rows x.0 (λ t. h (rw x.2 at t))) ∙ sym x.1

  module _ (twins : List ℕ) (no-small : CallExactly45 c.kinds c.rows bytes m) (no-large : CallExactly45 d.kinds d.rows bytes n) where
    abbrev shows : Placed rule.Term → Called
    shows o = record { answer = termed o; twins = twins_after o twins }

    returns_45 : (K : Kinds) (rows : Rows) (o : Placed rule.Term) → CallExactly45 K rows bytes o → Returns45 K rows bytes (termed o)
    unfolding termed
    returns_45 K rows o h before l op r rest below x good splits at has =
        let e = h before l op r rest below x good splits at has in
        (λ z. ap termed (e.0 z), λ y p. e.1 y (no_kind_given o _ y p))

    shown : Demand3Returned c d bytes (record { small = Ok (shows m); large = Ok (shows n) })
    unfolding termed
    shown = record {
      small = shows m;
      large = shows n;
      ran_small = refl;
      ran_large = refl;
      kind_stays = λ k e. ap termed (kept.stays (rule.Kind k) (term_given m (rule.Kind k) e));
      number_stays = λ e. ap termed (kept.stays rule.Number (term_given m rule.Number e));
      kind_calculated = λ k e. kept.calculated (rule.Kind k) (term_given m (rule.Kind k) e);
      number_calculated = λ e. kept.calculated rule.Number (term_given m rule.Number e);
      lifted = lifted;
      otherwise = λ f e h.
          let q = same_answer f e h in
          (ap termed q ∙ e, ap (λ (o : Placed rule.Term). twins_after o twins) q);
      no_kind = (returns_45 c.kinds c.rows m no-small, returns_45 d.kinds d.rows n no-large);
    }

pub long : length blank_table ≡ 9296
long = length-replicate {A = ℕ} 9296 0

pub enough : 240 ≤ length blank_twins
enough = rw (length-replicate {A = ℕ} 240 0) (omega arith)

-- ---- a run of an image that compiles is a call over the words it compiles into
pub run_is : (s bytes : List ℕ) (c : Compiled) → compile_image s 9296 ≡ given c → run_of s bytes ≡ Ok (called (call_over s blank_table blank_twins bytes))
unfolding run_of called_over
run_is s bytes c e = rw (run_of, e)

-- ---- two images
module _ (s l : List ℕ) (c d : Compiled) (p : TwoImages s l c d) where
  lent : TwoCatalogs s l blank_table blank_table blank_twins c d
  lent = record {
    bytes = p.bytes;
    compiles = ap (compile_image s) long ∙ p.compiles;
    compiles_too = ap (compile_image l) long ∙ p.compiles_too;
    same = p.same;
    more = p.more;
    scalars = p.scalars;
    enough = enough;
  }

  -- "each over its own compilation's table and rows": r is what `run_both` returns, by its contract
  pub demand3_returned : (bytes : List ℕ) (r : Both) → r ≡ both_of s l bytes → Demand3Returned c d bytes r
  unfolding both_of
  demand3_returned bytes r e =
      let k : Demand3Calls s l blank_table blank_table blank_twins c d = demand3_calls s l blank_table blank_table blank_twins c d lent in
      let a = run_is s bytes c p.compiles in
      let b = run_is l bytes d p.compiles_too in
      let z : r ≡ record { small = Ok (called (call_over s blank_table blank_twins bytes)); large = Ok (called (call_over l blank_table blank_twins bytes)) } = e ∙ rw (a, b) in
      rw z (shown c d bytes (call_over s blank_table blank_twins bytes) (call_over l blank_table blank_twins bytes) (k.kept bytes) blank_twins (k.products bytes).0 (k.products bytes).1)
