-- A walk that is refused at token p has come to that token, and its step is the one refused. Assumes nothing.
use Prim.Native.Nat.{ℕ, suc, ◌+◌}
use mathlib.Core.Path.{◌≡◌, refl, ◌∙◌, ap}
use mathlib.Core.Bool.{true, false, true≢false}
use mathlib.Core.List.{List, [], ◌∷◌, ◌++◌}
use Rattle.std.specs.declared.option.Option.TheVariants.{Some}
use native.Mathlib.Omega.{arith}
use lib.ListN.{length}
use Rattle.rules.specs.Formula.{Token, Machine, Step, on, stop, bad, stopped, malformed, step, walk}
use Rattle.guarantees.specs.Reached.{reached}

module _ {E A : Type 0} (M : Machine E A) where
  pub record StopsAt (ts : List Token) (s : List A) (n : ℕ) (x : E) : Type 0 where
    pub before : List Token
    pub token : Token
    pub rest : List Token
    pub held : List A
    pub splits : ts ≡ before ++ (token ∷ rest)
    pub place : length before ≡ n
    pub comes : reached M before s ≡ Some held
    pub stops : step M token held ≡ stop x

  pub stops_at : (ts : List Token) (at p : ℕ) (s : List A) (x : E) → walk M ts at s ≡ stopped p x → (n : ℕ) × (n + at ≡ p) × StopsAt ts s n x
  unfolding walk reached
  stops_at [] at p [] x e = let z : true ≡ false = cc in absurd (true≢false z)
  stops_at [] at p (a ∷ []) x e = let z : true ≡ false = cc in absurd (true≢false z)
  stops_at [] at p (a ∷ b ∷ s) x e = let z : true ≡ false = cc in absurd (true≢false z)
  stops_at (t ∷ ts) at p s x e = go (λ s' h. stops_at ts (suc at) p s' x h) (step M t s) refl
    where
      go : ((s' : List A) → walk M ts (suc at) s' ≡ stopped p x → (n : ℕ) × (n + suc at ≡ p) × StopsAt ts s' n x)
          → (o : Step E A) → step M t s ≡ o → (n : ℕ) × (n + at ≡ p) × StopsAt (t ∷ ts) s n x
      go ih (on s') q =
          let h = ih s' (rw (walk, q) at e) in
          let i = h.2 in (
            suc h.0,
            omega (arith, h.1),
            record {
              before = t ∷ i.before;
              token = i.token;
              rest = i.rest;
              held = i.held;
              splits = ap (λ (l : List Token). t ∷ l) i.splits;
              place = ap suc i.place;
              comes = rw (reached, q) i.comes;
              stops = i.stops;
            },
          )
      go ih (stop y) q =
          let z : stopped at y ≡ stopped p x = rw (walk, q) at e in
          let w : at ≡ p = cc in
          let v : y ≡ x = cc in
          (0, omega arith, record { before = []; token = t; rest = ts; held = s; splits = refl; place = refl; comes = refl; stops = q ∙ ap stop v })
      go ih bad q = let y : malformed at ≡ stopped p x = rw (walk, q) at e in let z : true ≡ false = cc in absurd (true≢false z)
