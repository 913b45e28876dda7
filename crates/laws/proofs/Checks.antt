-- Rules in a row: how code that goes on, or returns a refusal, meets them (`checks`), and what is known once a row of rules has given something.
-- Assumes nothing.
use Prim.Native.Nat.{ℕ, zero, suc, ◌+◌, ◌<◌, ◌≤◌}
use mathlib.Core.Path.{◌≡◌, refl, subst}
use mathlib.Core.Bool.{Bool, true, false, true≢false}
use mathlib.Core.Logic.{⊎_elim}
use Rattle.std.specs.declared.option.Option.{Option}
use Rattle.std.specs.declared.option.Option.TheVariants.{None, Some}
use native.Mathlib.Nat.{le_of_suc-le-suc, not-suc-le-zero, eq-or-lt_of_le, le_antisymm}
use native.Mathlib.Numerals.{add-one}
use native.Mathlib.Omega.{arith}
use Rattle.laws.specs.Out.{Out, given, refused, ◌>>=◌, ◌>>◌, refuse_if, refuse_found, needed, each}

-- ---- one rule after another: the first went on, or stopped
module _ {E A B : Type 0} where
  pub bind_on : {m : Out E A} (f : A → Out E B) {a : A} → m ≡ given a → (m >>= f) ≡ f a
  bind_on f p = rw p

  pub bind_stop : {m : Out E A} (f : A → Out E B) {x : E} → m ≡ refused x → (m >>= f) ≡ refused x
  bind_stop f p = rw p

  pub then_on : {m : Out E A} (n : Out E B) {a : A} → m ≡ given a → (m >> n) ≡ n
  then_on n p = rw p

  pub then_stop : {m : Out E A} (n : Out E B) {x : E} → m ≡ refused x → (m >> n) ≡ refused x
  then_stop n p = rw p

-- ---- a loop over rules: none has refused below i
module _ {E : Type 0} (rule : ℕ → Out E (Unit {0})) where
  pub each_none : each rule 0 ≡ given tt
  unfolding each
  each_none = refl

  pub each_next : (i : ℕ) → each rule i ≡ given tt → rule i ≡ given tt → each rule (i + 1) ≡ given tt
  unfolding each
  each_next i p q = rw (add-one, each, p, q)

  pub each_here : (i n : ℕ) {x : E} → each rule i ≡ given tt → i < n → rule i ≡ refused x → each rule n ≡ refused x
  unfolding each
  each_here i zero p l q = absurd (not-suc-le-zero l)
  each_here i (suc n) {x} p l q =
      ⊎_elim
      (λ h. subst (λ (m : ℕ). each rule (suc m) ≡ refused x) h (rw (each, p, q)))
      (λ h. rw (each, each_here i n p h q))
      (eq-or-lt_of_le (le_of_suc-le-suc l))

  pub each_end : (i n : ℕ) → each rule i ≡ given tt → i ≤ n → n ≤ i → each rule n ≡ given tt
  each_end i n p l m = rw (le_antisymm m l) p

pub ruleset checks = (bind_on, bind_stop, then_on, then_stop, each_none, each_next, each_here, each_end)

-- ---- what was given tells that each rule gave
module _ {E A B : Type 0} where
  pub bind_given : (m : Out E A) (f : A → Out E B) {b : B} → (m >>= f) ≡ given b → (a : A) × (m ≡ given a) × (f a ≡ given b)
  bind_given (given a) f e = (a, refl, e)
  bind_given (refused x) f e = let z : true ≡ false = cc in absurd (true≢false z)

  pub then_given : (m : Out E A) (n : Out E B) {b : B} → (m >> n) ≡ given b → (a : A) × (m ≡ given a) × (n ≡ given b)
  then_given (given a) n e = (a, refl, e)
  then_given (refused x) n e = let z : true ≡ false = cc in absurd (true≢false z)

module _ {E : Type 0} where
  pub refuse_given : (t : Bool) (x : E) {u : Unit {0}} → refuse_if t x ≡ given u → t ≡ false
  refuse_given true x e = cc
  refuse_given false x e = refl

  module _ {A : Type 0} where
    pub found_given : (o : Option A) (x : A → E) {u : Unit {0}} → refuse_found o x ≡ given u → o ≡ None
    found_given None x e = refl
    found_given (Some a) x e = cc

    pub needed_given : (o : Option A) (x : E) {a : A} → needed o x ≡ given a → o ≡ Some a
    needed_given None x e = cc
    needed_given (Some b) x e = cc

  pub each_given : (rule : ℕ → Out E (Unit {0})) (n i : ℕ) → each rule n ≡ given tt → i < n → rule i ≡ given tt
  unfolding each
  each_given rule zero i e h = absurd (not-suc-le-zero h)
  each_given rule (suc n) i e h =
      let s = then_given (each rule n) (rule n) e in
      ⊎_elim
      (λ z. let w : i ≡ n = omega arith in rw w s.2)
      (λ l. each_given rule n i s.1 l)
      (eq-or-lt_of_le (le_of_suc-le-suc h))
