-- What private functions of the crate compute.
use Rattle.std.specs.Prelude.{ℕ, zero, suc, ◌+◌, ◌*◌, ◌%◌, Bool, cond, ◌&&◌, List, ◌==◌, bit_or, nat_lt}
use Rattle.rules.specs.Table.{word, is_kind}

-- the bits of f 0, .., f (n - 1) in one number
unfoldable pub ors : (ℕ → ℕ) → ℕ → ℕ
ors f zero = 0
ors f (suc n) = bit_or (ors f n) (f n)

-- m added to the j-th of every fourth word from place p on
unfoldable pub raised : List ℕ → ℕ → ℕ → ℕ → ℕ
raised t m p j = (word t (p + 4 * j) + m) % 4294967296

-- the role of the kind whose words begin at p, and its difference: a kind's for a point, and none for any other
unfoldable pub role_fine : List ℕ → ℕ → Bool
role_fine t p = nat_lt (word t (p + 26)) 3 && cond (word t (p + 26) == 1) (is_kind t (word t (p + 27))) (word t (p + 27) == 65535)
