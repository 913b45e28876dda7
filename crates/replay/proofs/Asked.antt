-- The exponent that a request says, and where the requests stand. Assumes nothing.
use Prim.Native.Nat.{ℕ, ◌+◌}
use mathlib.Core.Path.{◌≡◌, refl}
use mathlib.Core.Bool.{Bool}
use mathlib.Core.List.{List}
use native.Mathlib.Numerals.{add-one}
use lib.IntN.{ℤ}
use lib.ListN.{drop}
use borrow.Author.Tests.{ne_eqb}
use Rattle.dimension.specs.Integer.{twos}
use Rattle.rules.specs.Bytes.{byte, le4}
use Rattle.rules.specs.Lookup as lone
use Rattle.replay.specs.declared.requests.Requests.{Requests}
use Rattle.replay.specs.Requests.{exponent_in, agreed, whole_size, place_of, agreed_at}

-- ---- the exponent of a power
module _ (s : List ℕ) {code : ℕ} (c : code ≡ byte s 0) where
  pub is_exact : {n d : ℕ} {z : ℤ} → (code ≡ 9 → ⊥) → z ≡ twos 2147483648 n → n ≡ le4 s 4 → d ≡ le4 s 8 → lone.exact z d ≡ exponent_in s
  unfolding exponent_in
  is_exact h e p q = rw (← c, ne_eqb code 9 h, ← p, ← q, e)

-- ---- one request after another
module _ (s : List ℕ) (k : Requests) (i : ℕ) {at : ℕ} {x : List ℕ} (p : at ≡ place_of k s i) (q : x ≡ drop at s) where
  pub next_place : {m : ℕ} → m ≡ whole_size k x → at + m ≡ place_of k s (i + 1)
  unfolding place_of
  next_place e = rw (add-one i, place_of, ← p, ← q, ← e)

  pub agreed_here : (t : List ℕ) {r : Bool} → r ≡ agreed k x t → r ≡ agreed_at k s t i
  unfolding agreed_at
  agreed_here t e = rw (← p, ← q) e

pub first_place : (s : List ℕ) (k : Requests) → 0 ≡ place_of k s 0
unfolding place_of
first_place s k = refl
