-- The laws of `below`: what is read past n is of no account. Assumes nothing.
use Prim.Native.Nat.{ℕ, ◌<◌, ◌≤◌}
use mathlib.Core.Path.{◌≡◌, refl, fun_ext}
use mathlib.Core.Bool.{Bool, true, false, cond}
use lib.Dec.{ltb}
use borrow.Author.Tests.{ltb-true, lt-ltb, le-ltb}
use Rattle.laws.specs.Ranges.{below}

module _ {A : Type 0} (n : ℕ) (a : A) (f : ℕ → A) where
  pub below_in : (k : ℕ) → k < n → below n a f k ≡ f k
  unfolding below
  below_in k h = rw (lt-ltb k n h)

  pub below_past : (k : ℕ) → n ≤ k → below n a f k ≡ a
  unfolding below
  below_past k h = rw (le-ltb k n h)

  -- rules that agree below n are one
  pub below_same : (g : ℕ → A) → ((k : ℕ) → k < n → f k ≡ g k) → below n a f ≡ below n a g
  unfolding below
  below_same g h = fun_ext (λ k. go k (ltb k n) refl)
    where
      go : (k : ℕ) (t : Bool) → ltb k n ≡ t → cond (ltb k n) (f k) a ≡ cond (ltb k n) (g k) a
      go k true p = rw p (h k (ltb-true k n p))
      go k false p = rw p
