-- The terms that are held where a walk comes to a token: it goes on from there, and what each step keeps is true of all of them. Assumes nothing.
use Prim.Native.Nat.{ℕ, suc, ◌+◌}
use mathlib.Core.Path.{◌≡◌, refl}
use mathlib.Core.Bool.{Bool, true, false, cond, true≢false}
use mathlib.Core.List.{List, [], ◌∷◌, ◌++◌}
use Rattle.std.specs.declared.option.Option.TheVariants.{None, Some}
use native.Mathlib.Omega.{arith}
use native.Mathlib.Nat.{zero-add}
use lib.Dec.{ltb}
use lib.ListN.{length}
use Rattle.laws.specs.Out.{Out, given, refused}
use Rattle.guarantees.specs.Reached.{reached}
use Rattle.rules.specs.Formula.{Token, Unary, Binary, in_limits, Machine, Step, on, stop, bad, onto, with_none, with_one, step, walk}

module _ {E A : Type 0} (M : Machine E A) where
  pub goes_on : (ts rest : List Token) (at : ℕ) (s s' : List A) → reached M ts s ≡ Some s' → walk M (ts ++ rest) at s ≡ walk M rest (length ts + at) s'
  unfolding reached walk
  goes_on [] rest at s s' e = let z : s ≡ s' = cc in rw (z, zero-add at)
  goes_on (t ∷ ts) rest at s s' e = go (λ s'' h. goes_on ts rest (suc at) s'' s' h) (step M t s) refl
    where
      go : ((s'' : List A) → reached M ts s'' ≡ Some s' → walk M (ts ++ rest) (suc at) s'' ≡ walk M rest (length ts + suc at) s')
          → (o : Step E A) → step M t s ≡ o → walk M (t ∷ (ts ++ rest)) at s ≡ walk M rest (suc (length ts) + at) s'
      go ih (on s'') p =
          let z : length ts + suc at ≡ suc (length ts) + at = omega arith in
          rw (walk, p, ← z) (ih s'' (rw (reached, p) at e))
      go ih (stop x) p = let z : None ≡ Some s' = rw (reached, p) at e in cc
      go ih bad p = let z : None ≡ Some s' = rw (reached, p) at e in cc

-- what every step keeps holds of every term held
pub record Keeps {E A : Type 0} (M : Machine E A) (P : A → Type 0) : Type 0 where
  pub number : P M.number
  pub kind : (k : ℕ) (a : A) → M.kind k ≡ given a → P a
  pub unary : (u : Unary) (x a : A) → P x → M.unary u x ≡ given a → P a
  pub binary : (b : Binary) (x y a : A) → P x → P y → M.binary b x y ≡ given a → P a

module _ {E A : Type 0} (M : Machine E A) (P : A → Type 0) (h : Keeps M P) where
  abbrev pub All : List A → Type 0
  All [] = Unit {0}
  All (a ∷ s) = P a × All s

  onto_keeps : (s s' : List A) (m : Out E A) → All s → ((a : A) → m ≡ given a → P a) → onto s m ≡ on s' → All s'
  onto_keeps s s' (given a) k f e = let z : a ∷ s ≡ s' = cc in rw (← z) (f a refl, k)
  onto_keeps s s' (refused x) k f e = let z : true ≡ false = cc in absurd (true≢false z)

  none_keeps : (s s' : List A) (m : Out E A) → All s → ((a : A) → m ≡ given a → P a) → with_none m s ≡ on s' → All s'
  none_keeps s s' m k f e = go (ltb (length s) 32) e
    where
      go : (t : Bool) → cond t (onto s m) bad ≡ on s' → All s'
      go true e = onto_keeps s s' m k f e
      go false e = let z : true ≡ false = cc in absurd (true≢false z)

  step_keeps : (t : Token) (s s' : List A) → All s → step M t s ≡ on s' → All s'
  step_keeps Token.number s s' k e = none_keeps s s' (given M.number) k (λ a p. let z : M.number ≡ a = cc in rw z at h.number) e
  step_keeps (Token.kind n) s s' k e = none_keeps s s' (M.kind n) k (h.kind n) e
  step_keeps (Token.unary u) s s' k e = go (in_limits u) s k e
    where
      go : (t : Bool) (s : List A) → All s → cond t (with_one (M.unary u) s) bad ≡ on s' → All s'
      go true [] k e = let z : true ≡ false = cc in absurd (true≢false z)
      go true (a ∷ s) k e = onto_keeps s s' (M.unary u a) k.1 (λ b p. h.unary u a b k.0 p) e
      go false s k e = let z : true ≡ false = cc in absurd (true≢false z)
  step_keeps (Token.binary b) [] s' k e = let z : true ≡ false = cc in absurd (true≢false z)
  step_keeps (Token.binary b) (y ∷ []) s' k e = let z : true ≡ false = cc in absurd (true≢false z)
  step_keeps (Token.binary b) (y ∷ x ∷ s) s' k e = onto_keeps s s' (M.binary b x y) k.1.1 (λ a p. h.binary b x y a k.1.0 k.0 p) e
  step_keeps Token.unreadable s s' k e = let z : true ≡ false = cc in absurd (true≢false z)

  pub reached_keeps : (ts : List Token) (s s' : List A) → All s → reached M ts s ≡ Some s' → All s'
  unfolding reached
  reached_keeps [] s s' k e = let z : s ≡ s' = cc in rw z at k
  reached_keeps (t ∷ ts) s s' k e = go (λ s'' q f. reached_keeps ts s'' s' q f) (step M t s) refl
    where
      go : ((s'' : List A) → All s'' → reached M ts s'' ≡ Some s' → All s') → (o : Step E A) → step M t s ≡ o → All s'
      go ih (on s'') p = ih s'' (step_keeps t s s'' k p) (rw (reached, p) at e)
      go ih (stop x) p = let y : None ≡ Some s' = rw (reached, p) at e in let z : true ≡ false = cc in absurd (true≢false z)
      go ih bad p = let y : None ≡ Some s' = rw (reached, p) at e in let z : true ≡ false = cc in absurd (true≢false z)
