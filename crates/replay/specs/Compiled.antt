-- What a stored compilation says of an answer and of the table's words t (docs/VECTORS.md, 'An answer'): bytes s begin with what is spoken of.
use Rattle.std.specs.Prelude.{ℕ, zero, suc, ◌+◌, ◌*◌, Bool, cond, ◌&&◌, ◌||◌, List, [], ltb, eqb, length, drop, replicate}
use Rattle.std.specs.declared.option.Option.{Option}
use Rattle.std.specs.declared.result.Result.{Result}
use Rattle.std.specs.declared.result.Result.TheVariants.{Ok, Err}
use Rattle.laws.specs.Options.{found}
use Rattle.laws.specs.Ranges.{first, all}
use Rattle.rules.specs.Bytes.{byte, le2, le4}
use Rattle.rules.specs.Image.{compile_image, table_after}
use Rattle.rules.specs.Table.{word, kind_place, row_place}
use Rattle.error.specs.declared.fault.Fault.{Fault}
use Rattle.compile.specs.Shown.{compiled}
use Rattle.stored.specs.Answers.{size_of, refusal_as}

-- ---- a kind, with whose words t begins
-- stored base j is base b
unfoldable pub is_base : List ℕ → ℕ → ℕ → Bool
is_base s b j = eqb (le2 s (10 + 6 * j)) b

-- which of the stored bases base b is
unfoldable pub base_of : List ℕ → ℕ → Option ℕ
base_of s b = first (is_base s b) (byte s 3)

-- the bits of a 16-bit numerator in 32
unfoldable pub widened : ℕ → ℕ
widened w = cond (ltb w 32768) w (4294901760 + w)

-- the words begin with these two
unfoldable pub pair_as : List ℕ → ℕ → ℕ → Bool
pair_as t num den = eqb (word t 0) num && eqb (word t 1) den

-- the exponent of stored base j
unfoldable pub stored_pair : List ℕ → ℕ → List ℕ → Bool
stored_pair s j t = pair_as t (widened (le2 s (12 + 6 * j))) (le2 s (14 + 6 * j))

-- that of an absent base is 0 and 1
unfoldable pub exponent_as : List ℕ → List ℕ → ℕ → Bool
exponent_as s t b = found (base_of s b) (λ j. stored_pair s j (drop (2 * b) t)) (pair_as (drop (2 * b) t) 0 1)

unfoldable pub exponents_as : List ℕ → List ℕ → Bool
exponents_as s t = all (exponent_as s t) 12

-- flag, grade, role
unfoldable pub marks_as : List ℕ → List ℕ → Bool
marks_as s t = eqb (word t 24) (byte s 2) && eqb (word t 25) (byte s 1) && eqb (word t 26) (byte s 0)

-- difference, rate-of, rate
unfoldable pub links_as : List ℕ → List ℕ → Bool
links_as s t = eqb (word t 27) (le2 s 4) && eqb (word t 28) (le2 s 6) && eqb (word t 29) (le2 s 8)

unfoldable pub kind_as : List ℕ → List ℕ → Bool
kind_as s t = marks_as s t && links_as s t && exponents_as s t

-- ---- the kinds one after another, then the rows in force
unfoldable pub kind_size : List ℕ → ℕ
kind_size s = 10 + 6 * byte s 3

-- where kind k of a stored answer stands
unfoldable pub kind_at : List ℕ → ℕ → ℕ
kind_at s zero = 8
kind_at s (suc k) = kind_at s k + kind_size (drop (kind_at s k) s)

unfoldable pub kind_here : List ℕ → List ℕ → ℕ → Bool
kind_here s t k = kind_as (drop (kind_at s k) s) (drop (kind_place k) t)

unfoldable pub kinds_as : List ℕ → List ℕ → Bool
kinds_as s t = all (kind_here s t) (le2 s 4)

-- row i of the rows that s begins with
unfoldable pub row_as : List ℕ → List ℕ → ℕ → Bool
row_as s t i =
    pair_as (drop (row_place i) t) (le2 s (10 * i)) (le2 s (10 * i + 2)) && pair_as (drop (row_place i + 2) t) (le2 s (10 * i + 4)) (le2 s (10 * i + 6))

unfoldable pub rows_as : List ℕ → List ℕ → Bool
rows_as s t = all (row_as (drop (kind_at s (le2 s 4)) s) t) (le2 s 6)

-- the counts, and that this is a compilation
unfoldable pub counts_as : List ℕ → List ℕ → Bool
counts_as s t = eqb (le4 s 0) 3 && pair_as t (le2 s 4) (le2 s 6)

unfoldable pub compiled_as : List ℕ → List ℕ → Bool
compiled_as s t = counts_as s t && kinds_as s t && rows_as s t

-- ---- the answer, and what the table holds after it
-- word i is before n, or what stood in the table that was lent
unfoldable pub is_untouched : List ℕ → ℕ → ℕ → Bool
is_untouched t n i = ltb i n || eqb (word t i) 2863311530

unfoldable pub untouched : List ℕ → ℕ → Bool
untouched t n = all (is_untouched t n) (length t)

-- four words more than a compilation writes
abbrev pub lent : List ℕ
lent = replicate 9300 2863311530

unfoldable pub fine_as : List ℕ → List ℕ → Bool
fine_as s t = compiled_as s t && untouched t 9296

unfoldable pub refused_as : List ℕ → Fault → List ℕ → Bool
refused_as s x t = refusal_as s x [] && untouched t 0

unfoldable pub answered_as : List ℕ → Result (Unit {0}) Fault → List ℕ → Bool
answered_as s (Ok u) t = fine_as s t
answered_as s (Err x) t = refused_as s x t

-- the image is compiled as stored
unfoldable pub compiled_so : List ℕ → List ℕ → Bool
compiled_so s image = answered_as s (compiled (compile_image image 9300)) (table_after image lent)

-- the bytes of the stored answer
unfoldable pub answer_size : List ℕ → ℕ
answer_size s = cond (eqb (byte s 0) 3) (kind_at s (le2 s 4) + 10 * le2 s 6) (size_of s)
