-- Numbers in a list of bytes, little-endian; what lies past the end is 0.
use Rattle.std.specs.Prelude.{ℕ, ◌+◌, ◌*◌, List, get_or}
use Rattle.laws.specs.Ranges.{sum}

-- byte i
abbrev pub byte : List ℕ → ℕ → ℕ
byte s i = get_or s i 0

-- "little-endian": 16 bits from byte i on
unfoldable pub le2 : List ℕ → ℕ → ℕ
le2 s i = byte s i + 256 * byte s (i + 1)

-- 32 bits
unfoldable pub le4 : List ℕ → ℕ → ℕ
le4 s i = le2 s i + 65536 * le2 s (i + 2)

-- "the sum of (i+1) × byte i for i from 0 to 507"
unfoldable pub block_sum : List ℕ → ℕ → ℕ
block_sum s block = sum (λ i. (i + 1) * byte s (block * 512 + i)) 508
