-- Demand 3, under its premises. Assumes nothing.
use Prim.Native.Nat.{ℕ}
use mathlib.Core.Path.{◌≡◌, refl, sym, subst}
use mathlib.Core.List.{List, [], ◌∷◌, ◌++◌}
use Rattle.std.specs.declared.option.Option.{Option}
use Rattle.std.specs.declared.option.Option.TheVariants.{None, Some}
use native.Mathlib.Omega.{arith}
use lib.ListN.{length}
use borrow.Author.Tests.{le-ltb}
use Rattle.laws.specs.Options.{is_some}
use Rattle.dimension.specs.declared.grade.ProductOp.{ProductOp}
use Rattle.rules.specs.Kinds.{Kinds, Rows, Graded}
use Rattle.rules.specs.Refusal.{Refusal, UnresolvedTwin, NoProductKind}
use Rattle.rules.specs.Formula.{Token, Term, Kind, Ended, answered, stopped, malformed, terms, formula}
use Rattle.guarantees.specs.Reached.{past}
use Rattle.guarantees.specs.Larger.{lifts}
use Rattle.guarantees.specs.AtToken.{times_token, AtProduct}
use Rattle.guarantees.specs.Premises.{Guaranteed, Scalars, Premises}
use Rattle.guarantees.specs.Demand3.{Exactly, HasProduct, Exactly45At, Demand3}
use Rattle.guarantees.proofs.Grows.{Grown}
use Rattle.guarantees.proofs.Reached.{reached_keeps}
use Rattle.guarantees.proofs.Larger.{formula_grown}
use Rattle.guarantees.proofs.AtToken.{refused_there}
use Rattle.guarantees.proofs.AtTwin.{lifted_to}
use Rattle.guarantees.proofs.Products.{exactly_45}
use Rattle.guarantees.proofs.Terms.{formula_meant}
use Rattle.guarantees.proofs.InRange.{in_range, in_range_law, guaranteed_within}

-- ---- 45 where a formula comes to a product: the two kinds on top are in range, and it is refused as their lookup is
module _ (K : Kinds) (rows : Rows) (c : Guaranteed K rows) (s : Scalars K) where
  there : (before : List Token) (l : ℕ) (op : ProductOp) (r : ℕ) (rest : List Token) (below : List Term) (x : Graded) → AtProduct K rows before l op r rest below → HasProduct K l op r x
      → Exactly K (λ y. formula K rows (before ++ (times_token op ∷ rest)) ≡ stopped (length before) (NoProductKind y)) x
  there before l op r rest below x h p =
      let q = reached_keeps (terms K rows) (in_range K) (in_range_law K rows (guaranteed_within K rows c)) before [] (Kind r ∷ Kind l ∷ below) tt h.held in
      let n = exactly_45 K rows c s l op r x q.1.0 q.0 p in
      (λ z. (refused_there K rows before l op r rest below h (NoProductKind x)).1 (n.0 z), λ y e. n.1 y ((refused_there K rows before l op r rest below h (NoProductKind y)).0 e))

  exactly_45_at : (toks : List Token) → Exactly45At K rows toks
  exactly_45_at toks before l op r rest below x e h p =
      subst (λ (ts : List Token). Exactly K (λ y. formula K rows ts ≡ stopped (length before) (NoProductKind y)) x) (sym e)
      (there before l op r rest below x h p)

-- ---- the whole
module _ (K : Kinds) (small large : Rows) (p : Premises K small large) (toks : List Token) where
  grown : (o : Ended Refusal Term) → formula K small toks ≡ o → Grown (lifts large) o (formula K large toks)
  grown o e = rw e at (formula_grown K small large p.more toks)

  lifted : (at l : ℕ) (op : ProductOp) (r : ℕ) (ks : List ℕ) → Grown (lifts large) (stopped at (UnresolvedTwin l op r ks)) (formula K large toks)
      → (w : Option ℕ) → large l op r ≡ w → past at (formula K large toks) ≡ is_some (large l op r)
  lifted at l op r ks g (Some k) e = rw e (g.1 (rw e))
  lifted at l op r ks g None e = rw (e, g.0 (rw e)) (le-ltb at at (omega arith))

  pub demand3 : Demand3 K small large toks
  demand3 = record {
    stays = λ t e. grown (answered t) e;
    calculated = formula_meant K small p.compiles p.scalars toks;
    lifted = λ at l op r ks e. lifted at l op r ks (grown (stopped at (UnresolvedTwin l op r ks)) e) (large l op r) refl;
    lifted_to = λ at l op r k ks e w. lifted_to K small large p.more toks at l op r k ks e w;
    otherwise = λ at x e f. (grown (stopped at x) e).0 f;
    malformed_stays = λ at e. grown (malformed at) e;
    no_kind = (exactly_45 K small p.compiles p.scalars, exactly_45 K large p.compiles_too p.scalars);
    no_kind_at = (exactly_45_at K small p.compiles p.scalars toks, exactly_45_at K large p.compiles_too p.scalars toks);
  }
