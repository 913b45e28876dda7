-- The terms that an array and a depth hold, and what a step does to them: one law for each way a step ends. Assumes nothing.
use Prim.Native.Nat.{ℕ, zero, suc, ◌+◌, ◌-◌, ◌<◌, ◌≤◌}
use mathlib.Core.Path.{◌≡◌, refl, ap}
use mathlib.Core.Bool.{Bool, true, false, cond}
use mathlib.Core.List.{List, [], ◌∷◌}
use native.Mathlib.Omega.{arith}
use native.Mathlib.Numerals.{add-one}
use borrow.Author.Tests.{ltb-true, ltb-false}
use lib.Dec.{ltb}
use lib.ListN.{length, get_or, set}
use lib.Seq.{get_or-set_same, get_or-set_other}
use Rattle.std.specs.declared.result.Result.{Result}
use Rattle.std.specs.declared.result.Result.TheVariants.{Err}
use Rattle.laws.specs.Out.{given, refused}
use Rattle.dimension.specs.Fraction as F
use Rattle.rules.specs.Kinds.{Kinds, Rows}
use Rattle.rules.specs.Refusal as why
use Rattle.rules.specs.Arithmetic.{Op}
use Rattle.rules.specs.Formula as rule
use Rattle.rules.specs.Formula.{number, kind, unary, binary, unreadable, exact, inexact, absolute, combined, compared}
use Rattle.error.specs.declared.cause.Error.{Error}
use Rattle.error.specs.declared.cause.Error.TheVariants as cause
use Rattle.tokens.specs.Shown.{coded}
use Rattle.tokens.specs.declared.token.Token.{Token}
use Rattle.tokens.specs.declared.token.Token.TheVariants as token
use Rattle.tokens.specs.declared.token.Unary.TheVariants.{Exact}
use Rattle.registry.proofs.Coded.{op_back}
use Rattle.formula.specs.Shown.{made, term_of, unary_of, binary_of, stack_of, landed_of, pushed_of, one_of, two_of, next_by, Stepped, step_by}
use Rattle.formula.specs.declared.terms.Term.{Term}
use Rattle.formula.specs.declared.terms.Term.TheVariants.{Number}
use Rattle.formula.specs.declared.stack.Put.{Put}

-- ---- the stack
module _ (a : List Term) where
  held_length : (d : ℕ) → length (stack_of a d) ≡ d
  unfolding stack_of
  held_length zero = refl
  held_length (suc d) = ap suc (held_length d)

  -- what is written at or over the depth isn't held
  held_under : (i d : ℕ) (t : Term) → d ≤ i → stack_of (set a i t) d ≡ stack_of a d
  unfolding stack_of
  held_under i zero t h = refl
  held_under i (suc d) t h = rw (get_or-set_other a i d t Number (λ e. omega arith), held_under i d t (omega arith))

  -- what is written at the depth is the new top
  pub held_put : (d : ℕ) (t : Term) → d < length a → stack_of (set a d t) (d + 1) ≡ term_of t ∷ stack_of a d
  unfolding stack_of
  held_put d t h = rw (add-one, get_or-set_same a d t Number h, held_under d d t (omega arith))

  held_one : (d : ℕ) → 0 < d → stack_of a d ≡ term_of (get_or a (d - 1) Number) ∷ stack_of a (d - 1)
  unfolding stack_of
  held_one zero h = absurd (omega arith)
  held_one (suc d) h = let p : suc d - 1 ≡ d = omega arith in rw p

  held_two : (d : ℕ) → 1 < d → stack_of a d ≡ term_of (get_or a (d - 1) Number) ∷ term_of (get_or a (d - 2) Number) ∷ stack_of a (d - 2)
  unfolding stack_of
  held_two zero h = absurd (omega arith)
  held_two (suc zero) h = absurd (omega arith)
  held_two (suc (suc d)) h =
      let p : suc (suc d) - 1 ≡ suc d = omega arith in
      let q : suc (suc d) - 2 ≡ d = omega arith in
      rw (p, q)

-- ---- how a step ends
module _ (a : List Term) (p : ℕ) {r : Result Put Error} where
  strays : r ≡ Err (cause.Malformed p) → Stepped a p rule.bad r
  strays e = rw e (record { went = refl; room = tt })

  -- what is made of the terms taken comes over those that are left
  lands : (at : ℕ) (m : why.Answer rule.Term) → at < 32 → r ≡ landed_of at (made m) → Stepped a p (rule.onto (stack_of a at) m) r
  unfolding made
  lands at (given rule.Number) l e = rw e (record { went = refl; room = l })
  lands at (given (rule.Kind k)) l e = rw e (record { went = refl; room = l })
  lands at (refused x) l e = rw e (record { went = refl; room = tt })

  -- no term, one term, two terms taken
  takes_none : (n : ℕ) (m : why.Answer rule.Term) → r ≡ pushed_of n p (made m) → Stepped a p (rule.with_none m (stack_of a n)) r
  unfolding pushed_of
  takes_none n m e = rw (held_length a n) (go (ltb n 32) refl)
    where
      go : (b : Bool) → ltb n 32 ≡ b → Stepped a p (cond (ltb n 32) (rule.onto (stack_of a n) m) rule.bad) r
      go true q = let z : r ≡ landed_of n (made m) = rw q at e in rw q (lands n m (ltb-true n 32 q) z)
      go false q = let z : r ≡ Err (cause.Malformed p) = rw q at e in rw q (strays z)

  module _ (f : rule.Term → why.Answer rule.Term) where
    misses_one : (n : ℕ) → n ≤ 0 → r ≡ Err (cause.Malformed p) → Stepped a p (rule.with_one f (stack_of a n)) r
    unfolding stack_of
    misses_one zero h e = strays e
    misses_one (suc n) h e = absurd (omega arith)

    takes_one : (n : ℕ) {y : Term} → n ≤ 32 → y ≡ get_or a (n - 1) Number → r ≡ one_of n p (made (f (term_of y))) → Stepped a p (rule.with_one f (stack_of a n)) r
    unfolding one_of
    takes_one n {y} l q e = go (ltb 0 n) refl
      where
        go : (b : Bool) → ltb 0 n ≡ b → Stepped a p (rule.with_one f (stack_of a n)) r
        go true h =
            let z : r ≡ landed_of (n - 1) (made (f (term_of y))) = rw h at e in
            let i = ltb-true 0 n h in
            rw (held_one a n i, ← q) (lands (n - 1) (f (term_of y)) (omega (arith, i)) z)
        go false h = let z : r ≡ Err (cause.Malformed p) = rw h at e in misses_one n (ltb-false 0 n h) z

  module _ (f : rule.Term → rule.Term → why.Answer rule.Term) where
    misses_two : (n : ℕ) → n ≤ 1 → r ≡ Err (cause.Malformed p) → Stepped a p (rule.with_two f (stack_of a n)) r
    unfolding stack_of
    misses_two zero h e = strays e
    misses_two (suc zero) h e = strays e
    misses_two (suc (suc n)) h e = absurd (omega arith)

    takes_two : (n : ℕ) {x y : Term} → n ≤ 32 → x ≡ get_or a (n - 2) Number → y ≡ get_or a (n - 1) Number → r ≡ two_of n p (made (f (term_of x) (term_of y))) → Stepped a p (rule.with_two f (stack_of a n)) r
    unfolding two_of
    takes_two n {x} {y} l o q e = go (ltb 1 n) refl
      where
        go : (b : Bool) → ltb 1 n ≡ b → Stepped a p (rule.with_two f (stack_of a n)) r
        go true h =
            let z : r ≡ landed_of (n - 2) (made (f (term_of x) (term_of y))) = rw h at e in
            let i = ltb-true 1 n h in
            rw (held_two a n i, ← o, ← q) (lands (n - 2) (f (term_of x) (term_of y)) (omega (arith, i)) z)
        go false h = let z : r ≡ Err (cause.Malformed p) = rw h at e in misses_two n (ltb-false 1 n h) z

-- what the code's step does to the two terms on top is the rules' step over all that are held
pub steps : (K : Kinds) (R : Rows) (a : List Term) (p n : ℕ) (t : Token) {x y : Term} {r : Result Put Error} → n ≤ 32 → x ≡ get_or a (n - 2) Number → y ≡ get_or a (n - 1) Number → r ≡ next_by K R t n p x y → Stepped a p (step_by K R t (stack_of a n)) r
unfolding step_by next_by
steps K R a p n token.Number l f g e = takes_none a p n (given rule.Number) e
steps K R a p n (token.Kind k) l f g e = takes_none a p n (rule.kind_term K k) e
steps K R a p n (token.Unary u) l f g e = takes_one a p (rule.unary_term K (unary_of u)) n l g e
steps K R a p n (token.Binary b) l f g e = takes_two a p (rule.binary_term K R (binary_of b)) n l f g e
steps K R a p n token.Unreadable l f g e = strays a p e

-- ---- the code's token and the rules'
with_two_law : {f g : rule.Term → rule.Term → why.Answer rule.Term} → ((x y : rule.Term) → f x y ≡ g x y) → (s : List rule.Term) → rule.with_two f s ≡ rule.with_two g s
with_two_law h [] = refl
with_two_law h (b ∷ []) = refl
with_two_law h (b ∷ a ∷ s) = ap (rule.onto s) (h a b)

pub step_coded : (K : Kinds) (R : Rows) (t : rule.Token) (s : List rule.Term) → step_by K R (coded t) s ≡ rule.step (rule.terms K R) t s
unfolding step_by rule.terms
step_coded K R number s = refl
step_coded K R (kind k) s = refl
step_coded K R (unary (exact e)) s = go (F.within e)
  where
    go : (b : Bool) → step_by K R (cond b (token.Unary (Exact e)) token.Unreadable) s ≡ cond b (rule.with_one (rule.unary_term K (exact e)) s) rule.bad
    go true = refl
    go false = refl
step_coded K R (unary inexact) s = refl
step_coded K R (unary absolute) s = refl
step_coded K R (binary (combined op)) s = with_two_law (λ x y. ap (λ (o : Op). rule.binary_term K R (combined o) x y) (op_back op)) s
step_coded K R (binary compared) s = refl
step_coded K R unreadable s = refl
