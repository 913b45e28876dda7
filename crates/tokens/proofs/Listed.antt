-- The tokens of a formula as a list: how many there are, which is the k-th, and those from the k-th on. Assumes nothing.
use Prim.Native.Nat.{ℕ, ◌+◌, ◌*◌, ◌/◌, ◌<◌, ◌≤◌}
use mathlib.Core.Path.{◌≡◌, refl}
use mathlib.Core.List.{List, [], ◌∷◌}
use native.Mathlib.Numerals.{add-one}
use native.Mathlib.Omega.{arith}
use lib.ListN.{length, get_or, drop, drop_of_length-le}
use lib.Seq.{drop-cons}
use Rattle.laws.specs.Ranges.{tab}
use Rattle.laws.proofs.Tab.{length_tab, tab_at}
use Rattle.rules.specs.Bytes.{byte, le2, le4}
use Rattle.rules.specs.Formula.{Token, number, unreadable}
use Rattle.rules.specs.Token.{token_at, tokens_in, token_by, unused_zero, exponent_at}
use Rattle.numbers.proofs.Past.{byte_past, le2_past, le4_past}
use Rattle.tokens.specs.Shown.{unused, token_of, remaining}

module _ (s : List ℕ) where
  pub tokens_tab : tokens_in s ≡ tab (token_at s) (length s / 12)
  unfolding tokens_in
  tokens_tab = refl

  pub tokens_count : length (tokens_in s) ≡ length s / 12
  tokens_count = rw tokens_tab (length_tab (token_at s) (length s / 12))

  -- at first they all remain
  pub remaining_all : remaining s 0 ≡ tokens_in s
  unfolding remaining
  remaining_all = refl

  module _ (k : ℕ) where
    pub tokens_at : (z : Token) → k < length s / 12 → get_or (tokens_in s) k z ≡ token_at s k
    tokens_at z h = rw tokens_tab (tab_at (token_at s) (length s / 12) k z h)

    -- those from k on are k and those from k + 1 on
    pub remaining_next : k < length s / 12 → remaining s k ≡ token_at s k ∷ remaining s (k + 1)
    unfolding remaining
    remaining_next h = rw (← tokens_at unreadable h, add-one k) (drop-cons (tokens_in s) k unreadable (rw tokens_count h))

    pub remaining_none : length s / 12 ≤ k → remaining s k ≡ []
    unfolding remaining
    remaining_none h = drop_of_length-le (tokens_in s) {i = k} (rw tokens_count h)

    pub remaining_drop : remaining s k ≡ drop k (tokens_in s)
    unfolding remaining
    remaining_drop = refl

    -- ---- a token is made of its five fields
    pub token_fields : token_at s k ≡ token_of (byte s (12 * k)) (byte s (12 * k + 1)) (le2 s (12 * k + 2)) (le4 s (12 * k + 4)) (le4 s (12 * k + 8))
    unfolding token_at unused_zero exponent_at token_of unused
    token_fields = refl

    -- far past the end they are all zero: a number
    pub token_past : length s / 12 < k → token_at s k ≡ number
    unfolding token_of unused token_by
    token_past h =
        let l : length s ≤ 12 * k = omega arith in
        rw (
          token_fields,
          byte_past s (12 * k) l,
          byte_past s (12 * k + 1) (omega (arith, l)),
          le2_past s (12 * k + 2) (omega (arith, l)),
          le4_past s (12 * k + 4) (omega (arith, l)),
          le4_past s (12 * k + 8) (omega (arith, l)),
        )
