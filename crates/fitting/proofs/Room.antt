-- A lent list has room for the kinds that fit, or stays as it was (`rooms`). Assumes nothing.
use Prim.Native.Nat.{ℕ, ◌<◌, ◌≤◌}
use mathlib.Core.Path.{◌≡◌, ◌∙◌, ap₂}
use mathlib.Core.List.{List}
use native.Mathlib.Omega.{arith}
use lib.ListN.{length}
use borrow.Author.Tests.{lt-ltb, le-ltb}
use Rattle.laws.specs.Ranges.{picked}
use Rattle.dimension.specs.declared.dimensions.Dimensions.{Dimensions}
use Rattle.rules.specs.Kinds.{fits, candidates}
use Rattle.rules.specs.Table.{kinds_of, dims_from}
use Rattle.fitting.specs.Shown.{at, listed, room_listed}

-- ---- old is the list as it was, new as it is
module _ (t : List ℕ) (d : Dimensions) (g : ℕ) (old : List ℕ) {new : List ℕ} where
  pub room_none : length old < 240 → new ≡ old → new ≡ room_listed (candidates (kinds_of t) (at d g)) old
  unfolding room_listed
  room_none h e = rw (lt-ltb (length old) 240 h) e

  -- w are the words of d, n the count
  pub room_all : (w : List ℕ) {n : ℕ} → 240 ≤ length old → dims_from w 0 ≡ d → n ≡ (kinds_of t).count
      → new ≡ listed (picked (fits (kinds_of t) (at (dims_from w 0) g)) n) old → new ≡ room_listed (candidates (kinds_of t) (at d g)) old
  unfolding room_listed
  room_all w h p q e =
      rw (le-ltb (length old) 240 h) (e ∙ ap₂ (λ (x : Dimensions) (m : ℕ). listed (picked (fits (kinds_of t) (at x g)) m) old) p q)

pub ruleset rooms = (room_none, room_all)

-- no more than 240 kinds are ever read
pub few_kinds : (t : List ℕ) → (kinds_of t).count ≤ 240
unfolding kinds_of
few_kinds t = omega arith
