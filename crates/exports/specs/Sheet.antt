-- The 32 words in which a call tells its answer to a caller in another language. Word 0: 0 a number, 1 a kind, 2 a refusal, 3 compiled; word 1: the
-- kind's index or the refusal's number; word 2: the place; from word 3 on what is returned; the rest zero.
use Rattle.std.specs.Prelude.{ℕ, Bool, cond, List, [], ◌∷◌, ◌++◌, map, ltb, leb, length, replicate}
use Rattle.laws.specs.Options.{found}
use Rattle.laws.specs.Out.{given, refused}
use Rattle.laws.specs.Ranges.{overlay}
use Rattle.rules.specs.Refusal.{Told, Fault, Placed, told}
use Rattle.rules.specs.Compile.{Compiled}
use Rattle.rules.specs.Formula.{Term, Number, Kind}
use Rattle.table.specs.Shown.{exponents_of}

-- a number as a word. The greatest word stands for every number over 32 bits, which only the length of an image, in 1, can be
unfoldable pub capped : ℕ → ℕ
capped n = cond (ltb n 4294967296) n 4294967295

-- what is returned, in 01's sequence: the dimensions, as numerator (two's complement) and denominator base by base, then the values
abbrev pub returned : Told → List ℕ
returned t = found t.dims exponents_of [] ++ map capped t.values

abbrev pub refusal_words : Fault → List ℕ
refusal_words x = 2 ∷ (told x.refusal).number ∷ capped x.place ∷ returned (told x.refusal)

abbrev pub padded : List ℕ → List ℕ
padded ws = overlay ws (replicate 32 0)

module _ {A : Type 0} where
  -- the words of an answer, where `tell` has those of an A
  unfoldable pub sheet_of : (A → List ℕ) → Placed A → List ℕ
  sheet_of tell (given a) = padded (tell a)
  sheet_of tell (refused x) = padded (refusal_words x)

abbrev pub compiled_words : Compiled → List ℕ
compiled_words c = 3 ∷ []

abbrev pub kind_words : ℕ → List ℕ
kind_words k = 1 ∷ k ∷ []

abbrev pub term_words : Term → List ℕ
term_words Number = 0 ∷ []
term_words (Kind k) = kind_words k

-- whether a lent buffer has room for an answer
unfoldable pub has_room : List ℕ → Bool
has_room old = leb 32 (length old)

-- what it then holds: the words over its front; without room it stays as it was
unfoldable pub written : List ℕ → List ℕ → List ℕ
written ws old = cond (has_room old) (overlay ws old) old
