-- A loop over the tokens of a formula keeps what a walk over those from k on comes to, v: it takes a turn, is refused, finds a token out of
-- place, or comes to the end. For every machine; n is how many tokens there are. Assumes nothing.
use Prim.Native.Nat.{ℕ, ◌+◌, ◌/◌, ◌<◌, ◌≤◌}
use mathlib.Core.Path.{◌≡◌}
use mathlib.Core.List.{List, []}
use native.Mathlib.Numerals.{add-one}
use lib.ListN.{length}
use Rattle.rules.specs.Formula.{Machine, on, stop, bad, Ended, stopped, malformed, last, step, walk}
use Rattle.rules.specs.Token.{token_at, tokens_in}
use Rattle.tokens.specs.Shown.{remaining}
use Rattle.tokens.proofs.Listed.{remaining_all, remaining_next, remaining_none}

module _ {E A : Type 0} (M : Machine E A) (s : List ℕ) where
  pub start : walk M (remaining s 0) 0 [] ≡ walk M (tokens_in s) 0 []
  start = rw (remaining_all s)

  module _ (k : ℕ) (terms : List A) {v : Ended E A} {n : ℕ} (inv : walk M (remaining s k) k terms ≡ v) (count : n ≡ length s / 12) where
    pub turn : {left : List A} → k < n → step M (token_at s k) terms ≡ on left → walk M (remaining s (k + 1)) (k + 1) left ≡ v
    unfolding walk
    turn h e = rw (remaining_next s k (rw count at h), walk, e, ← add-one k) at inv

    pub halt : {x : E} → k < n → step M (token_at s k) terms ≡ stop x → stopped k x ≡ v
    unfolding walk
    halt h e = rw (remaining_next s k (rw count at h), walk, e) at inv

    pub misplaced : k < n → step M (token_at s k) terms ≡ bad → malformed k ≡ v
    unfolding walk
    misplaced h e = rw (remaining_next s k (rw count at h), walk, e) at inv

    pub finish : n ≤ k → last k terms ≡ v
    unfolding walk
    finish h = rw (remaining_none s k (rw count at h), walk) at inv

pub ruleset turns = (start, turn, halt, misplaced, finish)
