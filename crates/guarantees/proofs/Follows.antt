-- The first law of walks, for any two machines: where each step of the one gives a, the other gives f of a. Then a walk that answers a is one that
-- answers f a. Assumes nothing.
use Prim.Native.Nat.{ℕ, suc}
use mathlib.Core.Path.{◌≡◌, refl, ap}
use mathlib.Core.Bool.{Bool, true, false, cond}
use mathlib.Core.List.{List, [], ◌∷◌, map}
use lib.Dec.{ltb}
use lib.ListN.{length, length-map}
use Rattle.laws.specs.Out.{Out, given, refused}
use Rattle.rules.specs.Formula.{Token, Unary, Binary, in_limits, Machine, Step, on, stop, bad, answered, stopped, malformed, onto, with_none, with_one, step, walk}

-- each step of N is f of what M's step gives
pub record Follows {E F A B : Type 0} (M : Machine E A) (N : Machine F B) (f : A → B) : Type 0 where
  pub number : N.number ≡ f M.number
  pub kind : (k : ℕ) (a : A) → M.kind k ≡ given a → N.kind k ≡ given (f a)
  pub unary : (u : Unary) (x a : A) → in_limits u ≡ true → M.unary u x ≡ given a → N.unary u (f x) ≡ given (f a)
  pub binary : (b : Binary) (x y a : A) → M.binary b x y ≡ given a → N.binary b (f x) (f y) ≡ given (f a)

module _ {E F A B : Type 0} (f : A → B) where
  onto_follows : (s s' : List A) (m : Out E A) (n : Out F B) → ((a : A) → m ≡ given a → n ≡ given (f a)) → onto s m ≡ on s' → onto (map f s) n ≡ on (map f s')
  onto_follows s s' (given a) n h e = let z : a ∷ s ≡ s' = cc in rw (h a refl) (ap (λ (l : List A). on (map f l)) z)
  onto_follows s s' (refused x) n h e = cc

  none_follows : (s s' : List A) (m : Out E A) (n : Out F B) → ((a : A) → m ≡ given a → n ≡ given (f a)) → with_none m s ≡ on s' → with_none n (map f s) ≡ on (map f s')
  none_follows s s' m n h e = rw (length-map s f) (go (ltb (length s) 32) e)
    where
      go : (t : Bool) → cond t (onto s m) bad ≡ on s' → cond t (onto (map f s) n) bad ≡ on (map f s')
      go true e = onto_follows s s' m n h e
      go false e = cc

module _ {E F A B : Type 0} (M : Machine E A) (N : Machine F B) (f : A → B) (h : Follows M N f) where
  pub step_follows : (t : Token) (s s' : List A) → step M t s ≡ on s' → step N t (map f s) ≡ on (map f s')
  step_follows Token.number s s' e = rw h.number (none_follows f s s' (given M.number) (given (f M.number)) (λ a p. cc) e)
  step_follows (Token.kind k) s s' e = none_follows f s s' (M.kind k) (N.kind k) (h.kind k) e
  step_follows (Token.unary u) s s' e = go (in_limits u) refl s e
    where
      go : (t : Bool) → in_limits u ≡ t → (s : List A) → cond t (with_one (M.unary u) s) bad ≡ on s' → cond t (with_one (N.unary u) (map f s)) bad ≡ on (map f s')
      go true p [] e = cc
      go true p (a ∷ s) e = onto_follows f s s' (M.unary u a) (N.unary u (f a)) (λ b q. h.unary u a b p q) e
      go false p s e = cc
  step_follows (Token.binary b) [] s' e = cc
  step_follows (Token.binary b) (y ∷ []) s' e = cc
  step_follows (Token.binary b) (y ∷ x ∷ s) s' e = onto_follows f s s' _ _ (h.binary b x y) e
  step_follows Token.unreadable s s' e = cc

  pub walk_follows : (ts : List Token) (at : ℕ) (s : List A) (a : A) → walk M ts at s ≡ answered a → walk N ts at (map f s) ≡ answered (f a)
  unfolding walk
  walk_follows [] at [] a e = cc
  walk_follows [] at (x ∷ []) a e = let z : x ≡ a = cc in rw z
  walk_follows [] at (x ∷ y ∷ s) a e = cc
  walk_follows (t ∷ ts) at s a e = go (λ s'. walk_follows ts (suc at) s' a) (step M t s) refl
    where
      go : ((s' : List A) → walk M ts (suc at) s' ≡ answered a → walk N ts (suc at) (map f s') ≡ answered (f a))
          → (o : Step E A) → step M t s ≡ o → walk N (t ∷ ts) at (map f s) ≡ answered (f a)
      go ih (on s') p = rw (walk, step_follows t s s' p) (ih s' (rw (walk, p) at e))
      go ih (stop x) p = let z : stopped at x ≡ answered a = rw (walk, p) at e in cc
      go ih bad p = let z : malformed at ≡ answered a = rw (walk, p) at e in cc
