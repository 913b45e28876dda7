-- What the code's own functions compute on the way.
use Rattle.std.specs.Prelude.{◌≡◌, ℕ, zero, suc, ◌+◌, ◌*◌, Bool, cond, not, ◌&&◌, ◌||◌, List, ltb, leb, eqb, length}
use Rattle.std.specs.declared.option.Option.{Option}
use Rattle.std.specs.declared.option.Option.TheVariants.{None, Some}
use Rattle.laws.specs.Options.{found, or_else}
use Rattle.laws.specs.Ranges.{first, first_from}
use Rattle.rules.specs.Bytes.{byte, le2}
use Rattle.rules.specs.Layout.{filled, kind_count, blocks_by}

-- what byte i of a block adds to its sum
unfoldable pub weighed : List ℕ → ℕ → ℕ → ℕ
weighed s block i = (i + 1) * byte s (block * 512 + i)

-- the denominator at i is 0 or over 32,767
unfoldable pub denominator_wrong : List ℕ → ℕ → Bool
denominator_wrong s i = eqb (le2 s i) 0 || ltb 32767 (le2 s i)

-- the first of n denominators of the kind at p that is wrong, and its place
unfoldable pub denominator_at : List ℕ → ℕ → ℕ → Option ℕ
denominator_at s p n = found (first (λ b. denominator_wrong s (p + 98 + 4 * b)) n) (λ b. Some (p + 98 + 4 * b)) None

-- the four bytes with which a record ends, at q: two fields of one byte, to a and to b, and two unnamed bytes
unfoldable pub marks_wrong : List ℕ → ℕ → ℕ → ℕ → ℕ → Bool
marks_wrong s q a b i = (eqb i q && ltb a (byte s i)) || (eqb i (q + 1) && ltb b (byte s i)) || (leb (q + 2) i && filled s i)

-- what is charged to byte 8
unfoldable pub counts_wrong : List ℕ → Bool
counts_wrong s = ltb 240 (kind_count s) || not (eqb (length s) (512 * blocks_by s))

-- the head of a block at p: its type at 2, the number of its records at 3
unfoldable pub head_at : List ℕ → ℕ → ℕ → ℕ → Option ℕ
head_at s p type held = or_else (cond (not (eqb (byte s (p + 2)) type)) (Some (p + 2)) None) (cond (not (eqb (byte s (p + 3)) held)) (Some (p + 3)) None)

-- the first wrong byte of n records of so many bytes from p on
unfoldable pub records_at : (ℕ → ℕ → Bool) → ℕ → ℕ → ℕ → Option ℕ
records_at wrong bytes p zero = None
records_at wrong bytes p (suc n) = or_else (records_at wrong bytes p n) (first_from (wrong (p + bytes * n)) (p + bytes * n) bytes)

-- a record's check at q answers with the first byte of the record, so many bytes from q on, that is wrong
abbrev pub Follows : (ℕ → Option ℕ → Type 0) → (ℕ → ℕ → Bool) → ℕ → Type 0
Follows post wrong bytes = (q : ℕ) (r : Option ℕ) → post q r → r ≡ first_from (wrong q) q bytes
