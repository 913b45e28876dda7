-- The laws of `first_from`: a loop over the n numbers from p on (`spans`), one that only gathers whether any passes (`anys`), a range taken apart into
-- ranges that follow one another, and what code that looks through them one by one answers (`seeks`). Assumes nothing.
use Prim.Native.Nat.{ℕ, zero, suc, ◌+◌, ◌<◌, ◌≤◌}
use mathlib.Core.Path.{◌≡◌, refl, sym, subst}
use mathlib.Core.Bool.{Bool, true, false, not, cond, ◌||◌}
use mathlib.Core.Logic.{⊎_elim}
use Rattle.std.specs.declared.option.Option.{Option}
use Rattle.std.specs.declared.option.Option.TheVariants.{None, Some}
use native.Mathlib.Nat.{le_of_suc-le-suc, not-suc-le-zero, eq-or-lt_of_le, le_antisymm, add-suc, add_assoc, zero-add, add-zero}
use native.Mathlib.Numerals.{add-one}
use native.Mathlib.Omega.{arith}
use Rattle.laws.specs.Options.{is_some, or_else}
use Rattle.laws.specs.Ranges.{first, first_from}

pub or_assoc : (a b c : Option ℕ) → or_else (or_else a b) c ≡ or_else a (or_else b c)
or_assoc (Some i) b c = refl
or_assoc None b c = refl

some_or : (o : Option ℕ) (b : Bool) (i : ℕ) → (is_some o || b) ≡ is_some (or_else o (cond b (Some i) None))
some_or (Some j) b i = refl
some_or None true i = refl
some_or None false i = refl

-- where nothing was gathered there is none
pub none_there : {v : Bool} (o : Option ℕ) → v ≡ is_some o → not v ≡ true → o ≡ None
none_there (Some i) e f = cc
none_there None e f = refl

module _ (test : ℕ → Bool) (p : ℕ) where
  -- ---- a loop: nothing is found in the first i
  pub from_none : first_from test p 0 ≡ None
  unfolding first_from
  from_none = refl

  pub from_next : (i : ℕ) {b : Bool} → first_from test p i ≡ None → b ≡ test (p + i) → b ≡ false → first_from test p (i + 1) ≡ None
  unfolding first_from
  from_next i e q f = rw (add-one, first_from, e, ← q, f)

  pub from_here : (i n : ℕ) {b : Bool} → first_from test p i ≡ None → i < n → b ≡ test (p + i) → b ≡ true → first_from test p n ≡ Some (p + i)
  unfolding first_from
  from_here i zero e l q t = absurd (not-suc-le-zero l)
  from_here i (suc n) e l q t =
      ⊎_elim
      (λ z. subst (λ (m : ℕ). first_from test p (suc m) ≡ Some (p + i)) z (rw (first_from, e, ← q, t)))
      (λ h. rw (first_from, from_here i n e h q t))
      (eq-or-lt_of_le (le_of_suc-le-suc l))

  pub from_end : (i n : ℕ) → first_from test p i ≡ None → i ≤ n → n ≤ i → first_from test p n ≡ None
  from_end i n e l m = rw (le_antisymm m l) e

  -- ---- a loop with no branch: v says whether there is one in the first i
  pub any_none : false ≡ is_some (first_from test p 0)
  unfolding first_from
  any_none = refl

  pub any_next : (i : ℕ) {v b : Bool} → v ≡ is_some (first_from test p i) → b ≡ test (p + i) → (v || b) ≡ is_some (first_from test p (i + 1))
  unfolding first_from
  any_next i e q = rw (add-one, first_from, e, q) (some_or (first_from test p i) (test (p + i)) (p + i))

  pub any_end : (i n : ℕ) {v : Bool} → v ≡ is_some (first_from test p i) → i ≤ n → n ≤ i → v ≡ is_some (first_from test p n)
  any_end i n e l m = rw (le_antisymm m l) e

  -- ---- tests that agree on the range find the same
  pub from_same : (other : ℕ → Bool) (n : ℕ) → ((k : ℕ) → k < n → test (p + k) ≡ other (p + k)) → first_from test p n ≡ first_from other p n
  unfolding first_from
  from_same other zero h = refl
  from_same other (suc n) h =
      let e : first_from test p n ≡ first_from other p n = from_same other n (λ k l. h k (omega arith)) in
      let q : test (p + n) ≡ other (p + n) = h n (omega arith) in
      cc

  -- ---- a range is its first n numbers and then the rest
  pub from_split : (n m : ℕ) → first_from test p (n + m) ≡ or_else (first_from test p n) (first_from test (p + n) m)
  unfolding first_from
  from_split n zero = rw (add-zero n) (sym (or_none (first_from test p n)))
    where
      or_none : (o : Option ℕ) → or_else o None ≡ o
      or_none (Some i) = refl
      or_none None = refl
  from_split n (suc m) =
      rw (add-suc n m, first_from, from_split n m, ← add_assoc p n m) (or_assoc (first_from test p n) (first_from test (p + n) m) _)

-- from 0 on it is `first`
pub from_start : (test : ℕ → Bool) (n : ℕ) → first_from test 0 n ≡ first test n
unfolding first first_from
from_start test zero = refl
from_start test (suc n) = rw (first_from, first, from_start test n, zero-add n)

pub ruleset spans = (from_none, from_next, from_here, from_end)

pub ruleset anys = (any_none, any_next, any_end)

-- ---- two ranges, one after the other
pub seek_here : {a : Option ℕ} (b : Option ℕ) {i : ℕ} → a ≡ Some i → or_else a b ≡ Some i
seek_here b e = rw e

pub seek_on : {a b : Option ℕ} {o : Option ℕ} → a ≡ None → b ≡ o → or_else a b ≡ o
seek_on e f = rw e f

pub ruleset seeks = (seek_here, seek_on)
