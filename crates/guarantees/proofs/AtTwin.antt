-- Where a formula is refused by 44 and the larger rows have one for that very left, operation and right, the larger catalog comes to the same
-- token with the same terms held, and goes on there with its row's kind. Assumes nothing.
use Prim.Native.Nat.{ℕ}
use mathlib.Core.Path.{◌≡◌, refl, sym, ◌∙◌, ap}
use mathlib.Core.Bool.{true, false, true≢false}
use mathlib.Core.List.{List, [], ◌∷◌, ◌++◌}
use Rattle.std.specs.declared.option.Option.{Option}
use Rattle.std.specs.declared.option.Option.TheVariants.{None, Some}
use native.Mathlib.Nat.{add-zero}
use lib.ListN.{length}
use Rattle.laws.specs.Out.{given, refused}
use Rattle.dimension.specs.declared.grade.ProductOp.{ProductOp}
use Rattle.rules.specs.Kinds.{Kinds, Rows, Graded}
use Rattle.rules.specs.Refusal.{Refusal, Answer, UnresolvedTwin}
use Rattle.rules.specs.Arithmetic.{derive, resolve, product}
use Rattle.rules.specs.Formula.{Token, Term, Kind, Step, on, stop, bad, stopped, malformed, step, walk, terms, malformed_at, formula}
use Rattle.guarantees.specs.Reached.{reached}
use Rattle.guarantees.specs.Larger.{Extends, lifts}
use Rattle.guarantees.specs.AtToken.{times_token, LiftedTo}
use Rattle.guarantees.proofs.Grows.{step_grown}
use Rattle.guarantees.proofs.Calm.{Calm, derive_calm}
use Rattle.guarantees.proofs.Larger.{grows}
use Rattle.guarantees.proofs.AtToken.{at_token}
use Rattle.guarantees.proofs.StopsAt.{stops_at}
use Rattle.guarantees.proofs.IsTwin.{every, not_twins, is_twin}

module _ (K : Kinds) (small large : Rows) (more : Extends small large) where
  reached_grown : (ts : List Token) (s s' : List Term) → reached (terms K small) ts s ≡ Some s' → reached (terms K large) ts s ≡ Some s'
  unfolding reached
  reached_grown [] s s' e = e
  reached_grown (t ∷ ts) s s' e = go (λ s'' h. reached_grown ts s'' s' h) (step (terms K small) t s) refl
    where
      go : ((s'' : List Term) → reached (terms K small) ts s'' ≡ Some s' → reached (terms K large) ts s'' ≡ Some s')
          → (o : Step Refusal Term) → step (terms K small) t s ≡ o → reached (terms K large) (t ∷ ts) s ≡ Some s'
      go ih (on s'') p =
          let g : step (terms K large) t s ≡ on s'' = rw p at (step_grown (lifts large) (terms K small) (terms K large) (grows K small large more) t s) in
          rw (reached, g) (ih s'' (rw (reached, p) at e))
      go ih (stop x) p = let z : None ≡ Some s' = rw (reached, p) at e in cc
      go ih bad p = let z : None ≡ Some s' = rw (reached, p) at e in cc

  row_given : (l : ℕ) (op : ProductOp) (r k : ℕ) (ks : List ℕ) → product K small l op r ≡ refused (UnresolvedTwin l op r ks) → large l op r ≡ Some k → product K large l op r ≡ given k
  unfolding product
  row_given l op r k ks e w = go (derive K l op r) refl (derive_calm every K l op r)
    where
      at : (x : Graded) → derive K l op r ≡ given x → (u : List ℕ) → resolve K l op r x ≡ u → product K large l op r ≡ given k
      at x d (m ∷ []) p = let z : true ≡ false = cc in absurd (true≢false z)
      at x d [] p = let z : true ≡ false = cc in absurd (true≢false z)
      at x d (m ∷ j ∷ js) p = cc

      go : (m : Answer Graded) → derive K l op r ≡ m → Calm every m → product K large l op r ≡ given k
      go (given x) d c = at x d (resolve K l op r x) refl
      go (refused y) d c = let z : ◌≡◌ {A = Answer ℕ} (refused y) (refused (UnresolvedTwin l op r ks)) = cc in absurd (true≢false (not_twins {A = ℕ} (refused y) l op r ks c z))

  module _ (toks : List Token) (p l : ℕ) (op : ProductOp) (r k : ℕ) (ks : List ℕ) (w : large l op r ≡ Some k) (m : malformed_at toks ≡ None) where
    lift : (before rest : List Token) (below : List Term) → toks ≡ before ++ (times_token op ∷ rest) → length before ≡ p
        → reached (terms K small) before [] ≡ Some (Kind r ∷ Kind l ∷ below) → product K small l op r ≡ refused (UnresolvedTwin l op r ks) → LiftedTo K small large toks p l op r k
    lift before rest below s n u asked =
        let v = reached_grown before [] (Kind r ∷ Kind l ∷ below) u in
        let a = at_token K large before l op r rest below (record { well_formed = rw s at m; held = v }) in
        record {
          before = before;
          rest = rest;
          below = below;
          splits = s;
          place = n;
          held = u;
          held_too = v;
          goes_on = ap (formula K large) s ∙ (rw (row_given l op r k ks asked w, n) at a);
        }

    lift_walk : walk (terms K small) toks 0 [] ≡ stopped p (UnresolvedTwin l op r ks) → LiftedTo K small large toks p l op r k
    lift_walk v =
        let h = stops_at (terms K small) toks 0 p [] (UnresolvedTwin l op r ks) v in
        let i = h.2 in
        let t = is_twin K small l op r ks i.token i.held i.stops in
        lift i.before i.rest t.below (i.splits ∙ ap (λ (x : Token). i.before ++ (x ∷ i.rest)) t.token) (i.place ∙ sym (add-zero h.0) ∙ h.1)
        (i.comes ∙ ap Some t.held) t.asked

  pub lifted_to : (toks : List Token) (p l : ℕ) (op : ProductOp) (r k : ℕ) (ks : List ℕ) → formula K small toks ≡ stopped p (UnresolvedTwin l op r ks) → large l op r ≡ Some k → LiftedTo K small large toks p l op r k
  unfolding formula
  lifted_to toks p l op r k ks e w = go (malformed_at toks) refl
    where
      go : (o : Option ℕ) → malformed_at toks ≡ o → LiftedTo K small large toks p l op r k
      go (Some q) m = let y : malformed q ≡ stopped p (UnresolvedTwin l op r ks) = rw m at e in let z : true ≡ false = cc in absurd (true≢false z)
      go None m = lift_walk toks p l op r k ks w m (rw m at e)
