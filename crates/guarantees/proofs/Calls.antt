-- Demand 3 over what is lent: of every pair of calls over the words that two images compile into. Assumes nothing.
use Prim.Native.Nat.{ℕ}
use mathlib.Core.Path.{◌≡◌, refl, sym, ◌∙◌, ap, subst}
use mathlib.Core.Bool.{Bool, true, false, cond, true≢false}
use mathlib.Core.List.{List, []}
use lib.ListN.{length}
use Rattle.laws.specs.Options.{is_some}
use Rattle.laws.specs.Out.{given, refused}
use Rattle.dimension.specs.declared.grade.ProductOp.{ProductOp}
use Rattle.rules.specs.Kinds.{Kinds, Rows, Graded}
use Rattle.rules.specs.Refusal.{Refusal, Fault, Placed, Malformed, UnresolvedTwin, NoProductKind, twins_after}
use Rattle.rules.specs.Compile.{Compiled}
use Rattle.rules.specs.Formula.{Term, Ended, answered, stopped, malformed, formula}
use Rattle.rules.specs.Token.{tokens_in, good_length}
use Rattle.rules.specs.Call.{ending, formula_in}
use Rattle.guarantees.specs.Larger.{lifts}
use Rattle.guarantees.specs.Reached.{past}
use Rattle.guarantees.specs.Demand3.{Exactly45, Exactly45At, Demand3}
use Rattle.guarantees.specs.Calls.{call_over, past_token, fault, CallsKept, CallExactly45, TwoCatalogs, Demand3Calls}
use Rattle.guarantees.proofs.Images.{images_kinds, images_demand3}
use Rattle.guarantees.proofs.Lent.{call_is, lookup_45}

-- ---- a call's answer is its formula's ending
module _ (K : Kinds) (small large : Rows) (tokens : List ℕ) (d : Demand3 K small large (tokens_in tokens)) where
  abbrev a : Ended Refusal Term
  a = cond (good_length tokens) (formula K small (tokens_in tokens)) (malformed 0)

  abbrev b : Ended Refusal Term
  b = cond (good_length tokens) (formula K large (tokens_in tokens)) (malformed 0)

  ended_given : (o : Ended Refusal Term) (x : Term) → ending o ≡ given x → o ≡ answered x
  ended_given (answered y) x e = cc
  ended_given (stopped p y) x e = cc
  ended_given (malformed p) x e = cc

  inner : (f g : Fault) → ◌≡◌ {A = Placed Term} (refused f) (refused g) → f ≡ g
  inner f g e = cc

  -- 50 is no 44
  no_twin : (k i l : ℕ) (op : ProductOp) (r : ℕ) (ks : List ℕ) → ◌≡◌ {A = Placed Term} (refused (fault k (Malformed k))) (refused (fault i (UnresolvedTwin l op r ks))) → true ≡ false
  no_twin k i l op r ks e =
      let v : Malformed k ≡ UnresolvedTwin l op r ks = ap (λ (f : Fault). f.refusal) (inner (fault k (Malformed k)) (fault i (UnresolvedTwin l op r ks)) e) in
      cc

  pub formulas_kept : CallsKept K large tokens (formula_in K small tokens) (formula_in K large tokens)
  unfolding formula_in
  formulas_kept = go (good_length tokens) refl
    where
      go : (g : Bool) → good_length tokens ≡ g → CallsKept K large tokens (ending a) (ending b)
      go false p = rw p (record {
        stays = λ x e. e;
        calculated = λ x e. let z : true ≡ false = cc in absurd (true≢false z);
        lifted = λ i l op r ks e. absurd (true≢false (no_twin 0 i l op r ks e));
        otherwise = λ f e h. e;
        twin_list = λ f lent e h. refl;
      })
      go true p = rw p (record {
        stays = λ x e. ap ending (d.stays x (ended_given _ x e));
        calculated = λ x e. d.calculated x (ended_given _ x e);
        lifted = lifts_there;
        otherwise = others;
        twin_list = λ f lent e h. ap (λ (m : Placed Term). twins_after m lent) (others f e h ∙ sym e);
      })
        where
          lifts_there : (i l : ℕ) (op : ProductOp) (r : ℕ) (ks : List ℕ) → ending (formula K small (tokens_in tokens)) ≡ refused (fault i (UnresolvedTwin l op r ks))
              → past_token i (ending (formula K large (tokens_in tokens))) ≡ is_some (large l op r)
          lifts_there i l op r ks e = stop (formula K small (tokens_in tokens)) refl
            where
              past_same : (o : Ended Refusal Term) → past_token i (ending o) ≡ past i o
              past_same (answered x) = refl
              past_same (stopped q x) = refl
              past_same (malformed q) = refl

              stop : (o : Ended Refusal Term) → formula K small (tokens_in tokens) ≡ o → past_token i (ending (formula K large (tokens_in tokens))) ≡ is_some (large l op r)
              stop (answered x) q = let w : given x ≡ refused (fault i (UnresolvedTwin l op r ks)) = rw q at e in let z : true ≡ false = cc in absurd (true≢false z)
              stop (stopped k x) q =
                  let w = inner (fault k x) (fault i (UnresolvedTwin l op r ks)) (rw q at e) in
                  let u : k ≡ i = ap (λ (f : Fault). f.place) w in
                  let v : x ≡ UnresolvedTwin l op r ks = ap (λ (f : Fault). f.refusal) w in
                  past_same (formula K large (tokens_in tokens)) ∙ d.lifted i l op r ks (rw (u, v) at q)
              stop (malformed k) q = absurd (true≢false (no_twin k i l op r ks (rw q at e)))

          others : (f : Fault) → ending (formula K small (tokens_in tokens)) ≡ refused f → lifts large f.refusal ≡ false → ending (formula K large (tokens_in tokens)) ≡ refused f
          others f e h = stop (formula K small (tokens_in tokens)) refl
            where
              stop : (o : Ended Refusal Term) → formula K small (tokens_in tokens) ≡ o → ending (formula K large (tokens_in tokens)) ≡ refused f
              stop (answered x) q = let w : given x ≡ refused f = rw q at e in let z : true ≡ false = cc in absurd (true≢false z)
              stop (stopped k x) q =
                  let w : refused (fault k x) ≡ refused f = rw q at e in
                  let v : lifts large x ≡ false = rw (← inner (fault k x) f w) at h in
                  ap ending (d.otherwise k x q v) ∙ w
              stop (malformed k) q =
                  let w : refused (fault k (Malformed k)) ≡ refused f = rw q at e in
                  ap ending (d.malformed_stays k q) ∙ w

-- ---- 45 in a call
at_45 : (o : Ended Refusal Term) (p : ℕ) (y : Graded) → ending o ≡ refused (fault p (NoProductKind y)) → o ≡ stopped p (NoProductKind y)
at_45 (answered x) p y e = cc
at_45 (stopped q x) p y e = let z : ◌≡◌ {A = Fault} (fault q x) (fault p (NoProductKind y)) = cc in ap (λ (f : Fault). stopped f.place f.refusal) z
at_45 (malformed q) p y e =
    let z : ◌≡◌ {A = Fault} (fault q (Malformed q)) (fault p (NoProductKind y)) = cc in
    let w : Malformed q ≡ NoProductKind y = ap (λ (f : Fault). f.refusal) z in
    let u : true ≡ false = cc in
    absurd (true≢false u)

formula_45 : (K : Kinds) (rows : Rows) (tokens : List ℕ) (answer : Placed Term) → answer ≡ formula_in K rows tokens → Exactly45At K rows (tokens_in tokens) → CallExactly45 K rows tokens answer
unfolding formula_in
formula_45 K rows tokens answer e f before l op r rest below x good splits there has =
    let n = f before l op r rest below x splits there has in
    let p : answer ≡ ending (formula K rows (tokens_in tokens)) = rw good at e in
    (λ z. p ∙ ap ending (n.0 z), λ y q. n.1 y (at_45 (formula K rows (tokens_in tokens)) (length before) y (sym p ∙ q)))

-- ---- two images, compiled into lent words: demand 3 of every pair of calls
module _ (s l old old-too twins : List ℕ) (c d : Compiled) (p : TwoCatalogs s l old old-too twins c d) where
  demands : (tokens : List ℕ) → Demand3 c.kinds c.rows d.rows (tokens_in tokens)
  demands tokens = images_demand3 s l p.bytes.0 p.bytes.1 (length old) (length old-too) c d p.compiles p.compiles_too p.same p.more p.scalars (tokens_in tokens)

  kinds_one : c.kinds ≡ d.kinds
  kinds_one = images_kinds s l p.bytes.0 p.bytes.1 (length old) (length old-too) c d p.compiles p.compiles_too p.same

  call_small : (tokens : List ℕ) → call_over s old twins tokens ≡ formula_in c.kinds c.rows tokens
  call_small tokens = call_is s old p.bytes.0 c p.compiles twins p.enough tokens

  call_large : (tokens : List ℕ) → call_over l old-too twins tokens ≡ formula_in d.kinds d.rows tokens
  call_large tokens = call_is l old-too p.bytes.1 d p.compiles_too twins p.enough tokens

  pub demand3_calls : Demand3Calls s l old old-too twins c d
  demand3_calls = record {
    kept = λ tokens. rw (call_small tokens, call_large tokens, ← kinds_one) (formulas_kept c.kinds c.rows d.rows tokens (demands tokens));
    lookups = (
      lookup_45 s old p.bytes.0 c p.compiles twins p.enough (demands []).no_kind.0,
      lookup_45 l old-too p.bytes.1 d p.compiles_too twins p.enough (subst (λ (K : Kinds). Exactly45 K d.rows) kinds_one (demands []).no_kind.1),
    );
    products = λ tokens. (
      formula_45 c.kinds c.rows tokens _ (call_small tokens) (demands tokens).no_kind_at.0,
      formula_45 d.kinds d.rows tokens _ (call_large tokens) (subst (λ (K : Kinds). Exactly45At K d.rows (tokens_in tokens)) kinds_one (demands tokens).no_kind_at.1),
    );
  }
