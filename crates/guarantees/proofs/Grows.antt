-- The second law of walks, for two machines: what a step of the first gives, the second gives too; a refusal stays as it is, unless `lifts` says
-- that the second gives something there. Then an answer stays, a refusal stays at its token, and a lifted one has been passed. Assumes nothing.
use Prim.Native.Nat.{ℕ, suc, ◌<◌}
use mathlib.Core.Path.{◌≡◌, refl}
use mathlib.Core.Bool.{Bool, true, false, cond}
use mathlib.Core.List.{List, [], ◌∷◌}
use native.Mathlib.Omega.{arith}
use lib.Dec.{ltb}
use lib.ListN.{length}
use borrow.Author.Tests.{lt-ltb}
use Rattle.laws.specs.Out.{Out, given, refused}
use Rattle.rules.specs.Formula.{Token, Unary, Binary, in_limits, Machine, Step, on, stop, bad, Ended, answered, stopped, malformed, onto, with_none, with_one, step, walk}
use Rattle.guarantees.specs.Reached.{past}

-- a formula that goes on after token p has come past it
module _ {E A : Type 0} (N : Machine E A) where
  pub later : (ts : List Token) (p at : ℕ) (s : List A) → p < at → past p (walk N ts at s) ≡ true
  unfolding walk
  later [] p at [] l = lt-ltb p at l
  later [] p at (x ∷ []) l = refl
  later [] p at (x ∷ y ∷ s) l = lt-ltb p at l
  later (t ∷ ts) p at s l = go (λ s'. later ts p (suc at) s' (omega arith)) (step N t s) refl
    where
      go : ((s' : List A) → past p (walk N ts (suc at) s') ≡ true) → (o : Step E A) → step N t s ≡ o → past p (walk N (t ∷ ts) at s) ≡ true
      go ih (on s') e = rw (walk, e) (ih s')
      go ih (stop x) e = rw (walk, e) (lt-ltb p at l)
      go ih bad e = rw (walk, e) (lt-ltb p at l)

module _ {E A : Type 0} (lifts : E → Bool) where
  abbrev pub GrownOut : Out E A → Out E A → Type 0
  GrownOut (given a) n = n ≡ given a
  GrownOut (refused x) n = (lifts x ≡ false → n ≡ refused x) × (lifts x ≡ true → (a : A) × (n ≡ given a))

  abbrev pub GrownStep : Step E A → Step E A → Type 0
  GrownStep (on s) n = n ≡ on s
  GrownStep (stop x) n = (lifts x ≡ false → n ≡ stop x) × (lifts x ≡ true → (s : List A) × (n ≡ on s))
  GrownStep bad n = n ≡ bad

  abbrev pub Grown : Ended E A → Ended E A → Type 0
  Grown (answered a) o = o ≡ answered a
  Grown (stopped p x) o = (lifts x ≡ false → o ≡ stopped p x) × (lifts x ≡ true → past p o ≡ true)
  Grown (malformed p) o = o ≡ malformed p

  pub record Grows (M N : Machine E A) : Type 0 where
    pub number : N.number ≡ M.number
    pub kind : (k : ℕ) → GrownOut (M.kind k) (N.kind k)
    pub unary : (u : Unary) (x : A) → GrownOut (M.unary u x) (N.unary u x)
    pub binary : (b : Binary) (x y : A) → GrownOut (M.binary b x y) (N.binary b x y)

  onto_grown : (s : List A) (m n : Out E A) → GrownOut m n → GrownStep (onto s m) (onto s n)
  onto_grown s (given a) n h = rw h
  onto_grown s (refused x) n h = (λ p. rw (h.0 p), λ p. ((h.1 p).0 ∷ s, rw (h.1 p).1))

  none_grown : (s : List A) (m n : Out E A) → GrownOut m n → GrownStep (with_none m s) (with_none n s)
  none_grown s m n h = go (ltb (length s) 32)
    where
      go : (t : Bool) → GrownStep (cond t (onto s m) bad) (cond t (onto s n) bad)
      go true = onto_grown s m n h
      go false = refl

  module _ (M N : Machine E A) (h : Grows M N) where
    pub step_grown : (t : Token) (s : List A) → GrownStep (step M t s) (step N t s)
    step_grown Token.number s = rw h.number (none_grown s (given M.number) (given M.number) refl)
    step_grown (Token.kind k) s = none_grown s (M.kind k) (N.kind k) (h.kind k)
    step_grown (Token.unary u) s = go (in_limits u) s
      where
        go : (t : Bool) (s : List A) → GrownStep (cond t (with_one (M.unary u) s) bad) (cond t (with_one (N.unary u) s) bad)
        go true [] = refl
        go true (a ∷ s) = onto_grown s (M.unary u a) (N.unary u a) (h.unary u a)
        go false s = refl
    step_grown (Token.binary b) [] = refl
    step_grown (Token.binary b) (y ∷ []) = refl
    step_grown (Token.binary b) (y ∷ x ∷ s) = onto_grown s (M.binary b x y) (N.binary b x y) (h.binary b x y)
    step_grown Token.unreadable s = refl

    pub walk_grown : (ts : List Token) (at : ℕ) (s : List A) → Grown (walk M ts at s) (walk N ts at s)
    unfolding walk
    walk_grown [] at [] = refl
    walk_grown [] at (x ∷ []) = refl
    walk_grown [] at (x ∷ y ∷ s) = refl
    walk_grown (t ∷ ts) at s = go (λ s'. walk_grown ts (suc at) s') (step M t s) refl (step_grown t s)
      where
        go : ((s' : List A) → Grown (walk M ts (suc at) s') (walk N ts (suc at) s')) → (o : Step E A) → step M t s ≡ o → GrownStep o (step N t s)
            → Grown (walk M (t ∷ ts) at s) (walk N (t ∷ ts) at s)
        go ih (on s') e g = rw (walk, e, g) (ih s')
        go ih (stop x) e g = rw (walk, e) (λ p. rw (walk, g.0 p), λ p. rw (walk, (g.1 p).1) (later N ts at (suc at) (g.1 p).0 (omega arith)))
        go ih bad e g = rw (walk, e, g)
