-- What is printed: the report's part of a lent slice, and the program kindcheck as a function from the bytes it reads to the bytes it prints.
use Rattle.std.specs.Prelude.{ℕ, zero, suc, ◌+◌, ◌*◌, ◌/◌, ◌%◌, min, cond, not, List, [], ◌∷◌, ◌++◌, ltb, take, drop}
use Rattle.laws.specs.Options.{found}
use Rattle.laws.specs.Out.{given, refused, ◌>>=◌}
use Rattle.laws.specs.Ranges.{first}
use Rattle.rules.specs.Refusal.{Placed, told}
use Rattle.rules.specs.Layout.{kind_count, blocks_by, filled}
use Rattle.rules.specs.Catalog.{kind_at}
use Rattle.rules.specs.Image.{image_check, compile_image}
use Rattle.rules.specs.Table.{table_size}
use Rattle.rules.specs.Formula.{Term, Number, Kind}
use Rattle.rules.specs.Call.{formula_in}

-- the id's bytes before its padding
unfoldable pub id_part : List ℕ → ℕ → List ℕ
id_part s p = take (found (first (λ i. not (filled s (p + i))) 32) (λ i. i) 32) (drop p s)

-- "A kind's part is empty where the image meets 1 to 4 or the index is past the end."
unfoldable pub kind_part : List ℕ → ℕ → List ℕ
kind_part image k = elim (image_check image) [ given u ↦ cond (ltb k (kind_count image)) (id_part image (kind_at k)) [] | refused x ↦ [] ]

-- "The report prints the kind's id or the caller's own word for a number .. padding left off; the word comes back whole."
unfoldable pub report : List ℕ → List ℕ → Term → List ℕ
report image word t = elim t [ Number ↦ word | Kind k ↦ kind_part image k ]

-- ---- kindcheck
-- "the header's counts give the image's length, 121 blocks at most, and short input leaves the formula empty"
unfoldable pub image_length : List ℕ → ℕ
image_length input = min 121 (blocks_by input) * 512

-- "reads the image, then the formula"
abbrev pub image_part : List ℕ → List ℕ
image_part input = take (image_length input) input

abbrev pub formula_part : List ℕ → List ℕ
formula_part input = drop (image_length input) input

-- decimal digits; k bounds how many
unfoldable pub digits_by : ℕ → ℕ → List ℕ
digits_by zero n = []
digits_by (suc k) n = cond (ltb n 10) ((48 + n) ∷ []) (digits_by k (n / 10) ++ ((48 + n % 10) ∷ []))

-- a number in decimal
unfoldable pub digits : ℕ → List ℕ
digits n = digits_by (suc n) n

-- "`kind 1 volume` (index, id), `number`, or `refused 44 2` (number, place)", and a newline
unfoldable pub line : List ℕ → Placed Term → List ℕ
line image (given Number) = 110 ∷ 117 ∷ 109 ∷ 98 ∷ 101 ∷ 114 ∷ 10 ∷ []
line image (given (Kind k)) = (107 ∷ 105 ∷ 110 ∷ 100 ∷ 32 ∷ []) ++ digits k ++ (32 ∷ []) ++ kind_part image k ++ (10 ∷ [])
line image (refused x) = (114 ∷ 101 ∷ 102 ∷ 117 ∷ 115 ∷ 101 ∷ 100 ∷ 32 ∷ []) ++ digits (told x.refusal).number ++ (32 ∷ []) ++ digits x.place ++ (10 ∷ [])

-- the image is compiled into a table of the program's own, so 5 and 40 don't arise
unfoldable pub checked : List ℕ → List ℕ → Placed Term
checked image bytes = compile_image image table_size >>= λ C. formula_in C.kinds C.rows bytes

-- the program: all that it prints for what it reads
unfoldable pub kindcheck : List ℕ → List ℕ
kindcheck input = line (image_part input) (checked (image_part input) (formula_part input))
