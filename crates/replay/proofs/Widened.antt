-- The bits of a 16-bit number in 32: those of the number that they stand for. Assumes nothing.
use Prim.Native.Nat.{ℕ, ◌<◌, ◌≤◌}
use mathlib.Core.Path.{◌≡◌}
use native.Mathlib.Decide.{dec_le}
use native.Mathlib.Omega.{arith}
use lib.IntN.{ℤ}
use borrow.Author.Tests.{le-ltb, lt-ltb}
use Rattle.dimension.specs.Integer.{bits32, twos}
use Rattle.replay.specs.Compiled.{widened}

pub widened_told : (w : ℕ) {z : ℤ} {r : ℕ} → w < 65536 → z ≡ twos 32768 w → r ≡ bits32 z → r ≡ widened w
unfolding widened
widened_told w h e f = rw (f, e) (go (dec_le 32768 w))
  where
    go : Dec (32768 ≤ w) → bits32 (twos 32768 w) ≡ widened w
    go (no g) = rw (lt-ltb w 32768 (omega arith))
    go (yes g) = rw (le-ltb w 32768 g, lt-ltb w 65536 h) (omega arith)

pub ruleset widening = (widened_told)
