-- 50 is about the tokens' shape alone: a formula is malformed exactly where `malformed_at` says so, whatever kinds and rows it runs over. Past that
-- test no step lacks its terms. Assumes nothing.
use Prim.Native.Nat.{ℕ, suc}
use mathlib.Core.Path.{◌≡◌, refl, ◌∙◌, ap}
use mathlib.Core.Bool.{Bool, true, false, cond, true≢false}
use mathlib.Core.List.{List, [], ◌∷◌, map}
use mathlib.Core.Logic.{◌↔◌}
use Rattle.std.specs.declared.option.Option.{Option}
use Rattle.std.specs.declared.option.Option.TheVariants.{None, Some}
use lib.Dec.{ltb}
use lib.ListN.{length, length-map}
use Rattle.laws.specs.Out.{Out, given, refused}
use Rattle.rules.specs.Kinds.{Kinds, Rows}
use Rattle.rules.specs.Formula.{Token, in_limits, Machine, Step, on, stop, bad, stopped, malformed, onto, with_none, with_one, step, walk, shape, malformed_at, terms, formula}
use Rattle.guarantees.proofs.Follows.{Follows, step_follows}

onto_not : {E A : Type 0} (s : List A) (m : Out E A) → onto s m ≡ bad → true ≡ false
onto_not s (given a) e = cc
onto_not s (refused x) e = cc

module _ {E F A B : Type 0} (f : A → B) where
  none_bad : (s : List A) (m : Out E A) (n : Out F B) → with_none m s ≡ bad → with_none n (map f s) ≡ bad
  none_bad s m n e = rw (length-map s f) (go (ltb (length s) 32) e)
    where
      go : (t : Bool) → cond t (onto s m) bad ≡ bad → cond t (onto (map f s) n) bad ≡ bad
      go true e = absurd (true≢false (onto_not s m e))
      go false e = refl

  -- a token out of place is so for every machine
  step_bad : (M : Machine E A) (N : Machine F B) (t : Token) (s : List A) → step M t s ≡ bad → step N t (map f s) ≡ bad
  step_bad M N Token.number s e = none_bad s (given M.number) (given N.number) e
  step_bad M N (Token.kind k) s e = none_bad s (M.kind k) (N.kind k) e
  step_bad M N (Token.unary u) s e = go (in_limits u) s e
    where
      go : (t : Bool) (s : List A) → cond t (with_one (M.unary u) s) bad ≡ bad → cond t (with_one (N.unary u) (map f s)) bad ≡ bad
      go true [] e = refl
      go true (a ∷ s) e = absurd (true≢false (onto_not s (M.unary u a) e))
      go false s e = refl
  step_bad M N (Token.binary b) [] e = refl
  step_bad M N (Token.binary b) (y ∷ []) e = refl
  step_bad M N (Token.binary b) (y ∷ x ∷ s) e = absurd (true≢false (onto_not s (M.binary b x y) e))
  step_bad M N Token.unreadable s e = refl

module _ {E A : Type 0} (M : Machine E A) where
  abbrev mark : A → Unit {0}
  mark a = tt

  follows : Follows M shape mark
  unfolding shape
  follows = record { number = refl; kind = λ k a e. refl; unary = λ u x a r e. refl; binary = λ b x y a e. refl }

  walk_malformed : (ts : List Token) (at p : ℕ) (s : List A) → walk M ts at s ≡ malformed p → walk shape ts at (map mark s) ≡ malformed p
  unfolding walk
  walk_malformed [] at p [] e = let z : at ≡ p = cc in rw z
  walk_malformed [] at p (x ∷ []) e = cc
  walk_malformed [] at p (x ∷ y ∷ s) e = let z : at ≡ p = cc in rw z
  walk_malformed (t ∷ ts) at p s e = go (λ s'. walk_malformed ts (suc at) p s') (step M t s) refl
    where
      go : ((s' : List A) → walk M ts (suc at) s' ≡ malformed p → walk shape ts (suc at) (map mark s') ≡ malformed p)
          → (o : Step E A) → step M t s ≡ o → walk shape (t ∷ ts) at (map mark s) ≡ malformed p
      go ih (on s') q = rw (walk, step_follows M shape mark follows t s s' q) (ih s' (rw (walk, q) at e))
      go ih (stop x) q = let z : stopped at x ≡ malformed p = rw (walk, q) at e in cc
      go ih bad q = let z : malformed at ≡ malformed p = rw (walk, q) at e in let z' : at ≡ p = cc in rw (walk, step_bad mark M shape t s q) (ap malformed z')

pub malformed_exactly : (K : Kinds) (rows : Rows) (toks : List Token) (p : ℕ) → (formula K rows toks ≡ malformed p) ↔ (malformed_at toks ≡ Some p)
unfolding formula malformed_at
malformed_exactly K rows toks p = (λ e. there e, λ e. rw e)
  where
    there : formula K rows toks ≡ malformed p → malformed_at toks ≡ Some p
    there e = go (malformed_at toks) refl
      where
        go : (o : Option ℕ) → malformed_at toks ≡ o → malformed_at toks ≡ Some p
        go (Some q) h = let z : malformed q ≡ malformed p = rw h at e in let w : q ≡ p = cc in h ∙ ap Some w
        go None h =
            let z : walk (terms K rows) toks 0 [] ≡ malformed p = rw h at e in
            rw (malformed_at, walk_malformed (terms K rows) toks 0 p [] z)
