-- The table's words, 16 + 240 × 32 + 400 × 4: what they are read as, which words are a table (40), and which words a compilation writes.
-- docs/TABLE.md has the layout as a picture.
use Rattle.std.specs.Prelude.{ℕ, zero, suc, ◌+◌, ◌*◌, ◌-◌, ◌/◌, ◌%◌, min, Bool, true, cond, not, ◌&&◌, ◌||◌, List, [], ◌∷◌, ◌++◌, eqb, ltb, leb, length, get_or, take, drop}
use Rattle.std.specs.declared.option.Option.{Option}
use Rattle.std.specs.declared.option.Option.TheVariants.{None, Some}
use Rattle.laws.specs.Options.{found, is_some}
use Rattle.laws.specs.Out.{refuse_if}
use Rattle.laws.specs.Ranges.{first, all, tab, below}
use Rattle.dimension.specs.Integer as I
use Rattle.dimension.specs.Fraction as F
use Rattle.dimension.specs.Dimension as D
use Rattle.dimension.specs.declared.rational.Rational.{Rational}
use Rattle.dimension.specs.declared.dimensions.Dimensions.{Dimensions}
use Rattle.dimension.specs.declared.grade.ProductOp.{ProductOp}
use Rattle.rules.specs.Kinds.{Kinds, Rows, op_word}
use Rattle.rules.specs.Refusal.{Answer, Short, absent}
use Rattle.rules.specs.Catalog.{Catalog, Row, find, link, difference_of, target_of, rate_among, role}

-- ---- places
abbrev pub word : List ℕ → ℕ → ℕ
word t i = get_or t i 0

-- the words of kind k and of row i in force begin here
abbrev pub kind_place : ℕ → ℕ
kind_place k = 16 + 32 * k

abbrev pub row_place : ℕ → ℕ
row_place i = 16 + 240 * 32 + 4 * i

-- "the table's first 9,296 words"
abbrev pub table_size : ℕ
table_size = row_place 400

-- 5: a buffer of length n is too short for this size
abbrev pub room_for : ℕ → ℕ → Answer (Unit {0})
room_for size n = refuse_if (ltb n size) (Short n)

-- ---- what the words are read as
-- the kind count; no table has more kinds, and no more are ever read
abbrev pub kinds_in : List ℕ → ℕ
kinds_in t = min 240 (word t 0)

-- an index, or none
abbrev pub index_or : ℕ → Option ℕ
index_or w = cond (ltb w absent) (Some w) None

-- the exponent of base b of those from place p on: the numerator's bits, the denominator
unfoldable pub exponent_from : List ℕ → ℕ → ℕ → Rational
exponent_from t p b = F.ratio (I.twos 2147483648 (word t (p + 2 * b))) (word t (p + 2 * b + 1))

-- twelve such exponents
unfoldable pub dims_from : List ℕ → ℕ → Dimensions
dims_from t p = D.dimensions (tab (exponent_from t p) 12)

-- the kinds: of each below the count flag, grade, difference, rate-of and rate, from word 24 on
unfoldable pub kinds_of : List ℕ → Kinds
kinds_of t = record {
  count = kinds_in t;
  dims = below (kinds_in t) None (λ k. cond (eqb (word t (kind_place k + 24)) 1) (Some (dims_from t (kind_place k))) None);
  grade = below (kinds_in t) 0 (λ k. word t (kind_place k + 25));
  difference = below (kinds_in t) None (λ k. index_or (word t (kind_place k + 27)));
  rate_of = below (kinds_in t) None (λ k. index_or (word t (kind_place k + 28)));
  rate = below (kinds_in t) None (λ k. index_or (word t (kind_place k + 29)));
  dimensionless = index_or (word t 2);
  time = index_or (word t 3);
}

-- row i of lent rows, four words each, is for that very left, operation and right
unfoldable pub is_row : List ℕ → ℕ → ProductOp → ℕ → ℕ → Bool
is_row s l op r i = eqb (word s (4 * i)) l && eqb (word s (4 * i + 1)) (op_word op) && eqb (word s (4 * i + 2)) r

-- "the first for a pair counts"
unfoldable pub rows_of : List ℕ → Rows
rows_of s l op r = found (first (is_row s l op r) (length s / 4)) (λ i. index_or (word s (4 * i + 3))) None

-- ---- 40: "Words are a table exactly if counts, indexes, roles, grades and declared exponents lie in their ranges, fractions reduced, and exactly
-- the points have a difference."
-- the index of a kind of the table; such an index, or none
abbrev pub is_kind : List ℕ → ℕ → Bool
is_kind t w = ltb w (word t 0)

abbrev pub link_fine : List ℕ → ℕ → Bool
link_fine t w = is_kind t w || eqb w absent

-- "counts, indexes" of the header
unfoldable pub head_fine : List ℕ → Bool
head_fine t = leb (word t 0) 240 && leb (word t 1) 400 && link_fine t (word t 2) && link_fine t (word t 3)

-- the kind whose words begin at p: flag, grade, role; difference exactly for a point (role 1), rate-of, rate; a given dimension's exponents
unfoldable pub marks_fine : List ℕ → ℕ → Bool
marks_fine t p =
    ltb (word t (p + 24)) 2 && ltb (word t (p + 25)) 4 && ltb (word t (p + 26)) 3
    && cond (eqb (word t (p + 26)) 1) (is_kind t (word t (p + 27))) (eqb (word t (p + 27)) absent)
    && link_fine t (word t (p + 28)) && link_fine t (word t (p + 29))

-- "declared exponents lie in their ranges, fractions reduced"
unfoldable pub exponents_fine : List ℕ → ℕ → Bool
exponents_fine t p = cond (eqb (word t (p + 24)) 1) (all (λ b. F.declared (exponent_from t p b)) 12) true

-- all of kind k
unfoldable pub kind_fine : List ℕ → ℕ → Bool
kind_fine t k = marks_fine t (kind_place k) && exponents_fine t (kind_place k)

-- the row whose words begin at p of s, over the kinds of t
unfoldable pub row_fine : List ℕ → List ℕ → ℕ → Bool
row_fine t s p = is_kind t (word s p) && ltb (word s (p + 1)) 4 && is_kind t (word s (p + 2)) && is_kind t (word s (p + 3))

-- the header, every kind below the count, every row below the row count
unfoldable pub is_table : List ℕ → Bool
is_table t = head_fine t && all (kind_fine t) (word t 0) && all (λ i. row_fine t t (row_place i)) (word t 1)

-- "The rows in force are lent to the lookup as a list of row records; one out of range is 40"
unfoldable pub are_rows : List ℕ → List ℕ → Bool
are_rows t s = eqb (length s % 4) 0 && all (λ i. row_fine t s (4 * i)) (length s / 4)

-- the rows of the table itself, as they are lent
unfoldable pub own_rows : List ℕ → List ℕ
own_rows t = take (4 * word t 1) (drop (row_place 0) t)

-- ---- what a compilation writes: "the table's first 9,296 words and nothing else"
-- a row in force
abbrev pub row_words : ℕ → ProductOp → ℕ → ℕ → List ℕ
row_words l op r k = l ∷ op_word op ∷ r ∷ k ∷ []

-- "A commutative row with left = right counts once."
unfoldable pub entries_of : Catalog → Row → List ℕ
entries_of C x = found (find C x.left) (λ l. found (find C x.right) (λ r. found (find C x.result) (λ k.
    row_words l x.op r k ++ cond (x.commutative && not (eqb l r)) (row_words r x.op l k) []) []) []) []

-- those of the first n rows, in order
unfoldable pub entries_in : Catalog → ℕ → List ℕ
entries_in C zero = []
entries_in C (suc n) = entries_in C n ++ entries_of C (C.row n)

-- the words of all rows in force
abbrev pub in_force : Catalog → List ℕ
in_force C = entries_in C C.row_count

-- "a kind that isn't there as 65,535"
abbrev pub index_word : Option ℕ → ℕ
index_word o = found o (λ k. k) absent

-- words 0 to 3: kind count, rows in force, dimensionless, time
unfoldable pub head_words : Catalog → List ℕ
head_words C = C.kind_count ∷ length (in_force C) / 4 ∷ index_word (link C C.dimensionless) ∷ index_word (link C C.time) ∷ []

-- words 24 to 29 of kind k
unfoldable pub mark_words : Catalog → ℕ → List ℕ
mark_words C k =
    cond (is_some (C.kind k).dims) 1 0 ∷ (C.kind k).grade ∷ role C k
    ∷ index_word (difference_of C k) ∷ index_word (target_of C k) ∷ index_word (rate_among C C.kind_count k) ∷ []

-- the exponents of an unresolved kind are written as dimension one's
abbrev pub exponent_of : Catalog → ℕ → ℕ → Rational
exponent_of C k b = D.exponent (found (C.kind k).dims (λ d. d) D.one) b

-- an even word is a numerator's bits, an odd one a denominator
unfoldable pub exponent_word : Rational → ℕ → ℕ
exponent_word a i = cond (eqb (i % 2) 0) (I.bits32 a.num) a.den

-- word f of kind k
unfoldable pub kind_word : Catalog → ℕ → ℕ → ℕ
kind_word C k f = cond (ltb f 24) (exponent_word (exponent_of C k (f / 2)) f) (word (mark_words C k) (f - 24))

-- word i: header, kinds, rows in force
unfoldable pub table_word : Catalog → ℕ → ℕ
table_word C i =
    cond (ltb i 16) (word (head_words C) i)
    (cond (ltb i (row_place 0)) (below C.kind_count 0 (λ k. kind_word C k ((i - 16) % 32)) ((i - 16) / 32))
    (word (in_force C) (i - row_place 0)))

-- "the table's first 9,296 words"
unfoldable pub table_words : Catalog → List ℕ
table_words C = tab (table_word C) table_size
