-- 01, 'The entry: a catalog image': which byte a fault is charged to. `byte_wrong s i` says that byte i is the first of a wrong field, a byte that
-- no id can have there, or an unnamed one that is not zero; 4 is charged to the lowest. The block's place (bytes 0 and 1) and sum (508 to 511) are
-- refusal 2's, the schema 3's.
use Rattle.std.specs.Prelude.{ℕ, ◌+◌, ◌*◌, ◌-◌, ◌/◌, ◌%◌, min, List, Bool, not, cond, ◌&&◌, ◌||◌, eqb, ltb, leb, length}
use Rattle.rules.specs.Bytes.{byte, le2}

-- "kind count at 8 (2 bytes, to 240); row count at 10 (2 bytes, to 200)"
abbrev pub kind_count : List ℕ → ℕ
kind_count s = le2 s 8

abbrev pub row_count : List ℕ → ℕ
row_count s = le2 s 10

-- "Then kind blocks, three records each, then row blocks, five each"
abbrev pub kind_blocks : List ℕ → ℕ
kind_blocks s = (kind_count s + 2) / 3

-- the blocks that the counts give
abbrev pub blocks_by : List ℕ → ℕ
blocks_by s = 1 + kind_blocks s + (row_count s + 4) / 5

-- byte i is not zero. "Unnamed bytes are zero."
unfoldable pub filled : List ℕ → ℕ → Bool
filled s i = not (eqb (byte s i) 0)

-- i lies in the n bytes from place p on
abbrev pub within : ℕ → ℕ → ℕ → Bool
within p n i = leb p i && ltb i (p + n)

-- "An id is 32 bytes: values 33 to 126, then zeros": a byte of another value, or one after a zero. As 4 names the lowest byte, it is "an id to
-- its first wrong byte".
unfoldable pub id_wrong : List ℕ → ℕ → ℕ → Bool
id_wrong s p i = within p 32 i && filled s i && (ltb (byte s i) 33 || ltb 126 (byte s i) || (ltb p i && not (filled s (i - 1))))

-- "Header (byte 3 zero)", type 0; the counts; "a length that the counts don't give to byte 8"; the ids at 12 and 44
unfoldable pub header_wrong : List ℕ → ℕ → Bool
header_wrong s i =
    (within 2 2 i && filled s i)
    || (eqb i 8 && (ltb 240 (kind_count s) || not (eqb (length s) (512 * blocks_by s))))
    || (eqb i 10 && ltb 200 (row_count s))
    || id_wrong s 12 i || id_wrong s 44 i
    || (within 76 432 i && filled s i)

-- the three ids with which a record begins, a kind's or a row's
unfoldable pub ids_wrong : List ℕ → ℕ → ℕ → Bool
ids_wrong s p i = id_wrong s p i || id_wrong s (p + 32) i || id_wrong s (p + 64) i

-- "twelve base exponents at 96 (signed 16-bit numerator, 16-bit denominator 1 to 32,767), flag at 144 (1 dimensions given; 0 unresolved, each of
-- the 48 exponent bytes zero; other flags leave these unchecked)"
unfoldable pub exponent_wrong : List ℕ → ℕ → ℕ → Bool
exponent_wrong s p i =
    within (p + 96) 48 i
    && ((eqb (byte s (p + 144)) 0 && filled s i)
    || (eqb (byte s (p + 144)) 1 && eqb ((i - p) % 4) 2 && (eqb (le2 s i) 0 || ltb 32767 (le2 s i))))

-- "Kind, 148 bytes from byte 4: .., grade 0 to 3 at 145"
unfoldable pub kind_wrong : List ℕ → ℕ → ℕ → Bool
kind_wrong s p i =
    ids_wrong s p i || exponent_wrong s p i
    || (eqb i (p + 144) && ltb 1 (byte s i)) || (eqb i (p + 145) && ltb 3 (byte s i))
    || (leb (p + 146) i && filled s i)

-- "Row, 100 bytes: left, right, result ids at 0, 32, 64; operation at 96 (0 Mul, 1 Div, 2 Dot, 3 Wedge); commutative 0 or 1 at 97."
unfoldable pub row_wrong : List ℕ → ℕ → ℕ → Bool
row_wrong s p i =
    ids_wrong s p i
    || (eqb i (p + 96) && ltb 3 (byte s i)) || (eqb i (p + 97) && ltb 1 (byte s i))
    || (leb (p + 98) i && filled s i)

-- "Byte 2: 0 header, 1 kinds, 2 rows. Byte 3: records in the block." "only the last of a type may be short"
unfoldable pub block_head_wrong : List ℕ → ℕ → ℕ → ℕ → Bool
block_head_wrong s type held i = (eqb (i % 512) 2 && not (eqb (byte s i) type)) || (eqb (i % 512) 3 && not (eqb (byte s i) held))

-- a block of a type, of records of so many bytes, m to a block, n in all, that begins with record `from`; past its records all is unnamed but
-- the sum
unfoldable pub block_wrong : (List ℕ → ℕ → ℕ → Bool) → ℕ → ℕ → ℕ → ℕ → ℕ → List ℕ → ℕ → Bool
block_wrong recordWrong type bytes m n from s i =
    cond (ltb (i % 512) 4) (block_head_wrong s type (min m (n - from)) i)
    (cond (ltb (i % 512) (4 + m * bytes) && ltb (from + (i % 512 - 4) / bytes) n) (recordWrong s (i - (i % 512 - 4) % bytes) i)
    (ltb (i % 512) 508 && filled s i))

-- the header, then the kind blocks, then the row blocks
unfoldable pub byte_wrong : List ℕ → ℕ → Bool
byte_wrong s i =
    cond (ltb i 512) (header_wrong s i)
    (cond (leb (i / 512) (kind_blocks s)) (block_wrong kind_wrong 1 148 3 (kind_count s) ((i / 512 - 1) * 3) s i)
    (block_wrong row_wrong 2 100 5 (row_count s) ((i / 512 - 1 - kind_blocks s) * 5) s i))
