-- Where the report's part lies, in the three words that tell it to a caller in another language: 0 for the word that was lent and 1 for the image; the
-- part's first byte there; its length.
use Rattle.std.specs.Prelude.{ℕ, Bool, true, false, cond, List, [], ◌∷◌, eqb, leb, length, take, drop, get_or}
use Rattle.laws.specs.Ranges.{overlay}
use Rattle.rules.specs.Catalog.{kind_at}
use Rattle.rules.specs.Formula.{Term, Number, Kind}
use Rattle.rules.specs.Report.{report}

-- what is to be reported, as the caller says it: whether it is a kind, and which
unfoldable pub term_by : Bool → ℕ → Term
term_by true k = Kind k
term_by false k = Number

-- the first byte of a kind's part of n bytes. An empty part is said to begin at 0, so that no place past the image's end is told
unfoldable pub kind_start : ℕ → ℕ → ℕ
kind_start k n = cond (eqb n 0) 0 (kind_at k)

-- the words of a part of n bytes
abbrev pub part_by : Term → ℕ → List ℕ
part_by Number n = 0 ∷ 0 ∷ n ∷ []
part_by (Kind k) n = 1 ∷ kind_start k n ∷ n ∷ []

unfoldable pub part_words : List ℕ → List ℕ → Term → List ℕ
part_words image word t = part_by t (length (report image word t))

-- the bytes that three words point at
unfoldable pub pointed : List ℕ → List ℕ → List ℕ → List ℕ
pointed image word ws = take (get_or ws 2 0) (drop (get_or ws 1 0) (cond (eqb (get_or ws 0 0) 0) word image))

-- whether a lent buffer has room for them, and what it then holds
unfoldable pub has_part_room : List ℕ → Bool
has_part_room old = leb 3 (length old)

unfoldable pub part_written : List ℕ → List ℕ → List ℕ
part_written ws old = cond (has_part_room old) (overlay ws old) old
