-- A byte of an id: its place among the id's 32 bytes is all that counts. Assumes nothing.
use Prim.Native.Nat.{ℕ, zero, suc, ◌+◌, ◌-◌, ◌<◌}
use mathlib.Core.Path.{◌≡◌, refl, sym, ◌∙◌}
use mathlib.Core.Bool.{Bool, true, false, not, ◌&&◌, ◌||◌}
use mathlib.Core.List.{List}
use native.Mathlib.Omega.{arith}
use borrow.Author.Tests.{le-leb, lt-ltb, le-ltb}
use lib.Dec.{eqb, ltb}
use Rattle.rules.specs.Bytes.{byte}
use Rattle.rules.specs.Layout.{filled, id_wrong}

after_first : (p i : ℕ) → ltb p (p + i) ≡ ltb 0 i
after_first p zero = le-ltb p (p + 0) (omega arith)
after_first p (suc i) = lt-ltb p (p + suc i) (omega arith) ∙ sym (lt-ltb 0 (suc i) (omega arith))

pub in_id : (s : List ℕ) (p i : ℕ) → i < 32
    → (filled s (p + i) && (ltb (byte s (p + i)) 33 || ltb 126 (byte s (p + i)) || (ltb 0 i && not (filled s (p + i - 1))))) ≡ id_wrong s p (p + i)
unfolding id_wrong
in_id s p i h = rw (le-leb p (p + i) (omega arith), lt-ltb (p + i) (p + 32) (omega arith), after_first p i)

not_not : (b : Bool) → not (not b) ≡ b
not_not true = refl
not_not false = refl

-- with the byte before it asked for zero
pub in_id_bytes : (s : List ℕ) (p i : ℕ) → i < 32
    → (not (eqb (byte s (p + i)) 0) && (ltb (byte s (p + i)) 33 || ltb 126 (byte s (p + i)) || (ltb 0 i && eqb (byte s (p + i - 1)) 0))) ≡ id_wrong s p (p + i)
unfolding filled
in_id_bytes s p i h = rw (not_not (eqb (byte s (p + i - 1)) 0)) at (in_id s p i h)
