-- What the code's loops over ids test.
use Rattle.std.specs.Prelude.{ℕ, ◌+◌, Bool, List, eqb}
use Rattle.rules.specs.Bytes.{byte}

-- byte i of the id at p is zero
unfoldable pub byte_zero : List ℕ → ℕ → ℕ → Bool
byte_zero s p i = eqb (byte s (p + i)) 0

-- byte i of the ids at p in s and at q in t is the same
unfoldable pub bytes_alike : List ℕ → ℕ → List ℕ → ℕ → ℕ → Bool
bytes_alike s p t q i = eqb (byte s (p + i)) (byte t (q + i))
