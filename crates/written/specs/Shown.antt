-- The words of an image, and what private functions of the crate compute on the way to them.
use Rattle.std.specs.Prelude.{ℕ, zero, suc, ◌+◌, ◌*◌, ◌/◌, ◌%◌, Bool, cond, not, ◌&&◌, List, [], ◌∷◌, ◌++◌, eqb, leb, length, get_or, replicate}
use Rattle.std.specs.declared.option.Option.{Option}
use Rattle.laws.specs.Options.{found, is_some}
use Rattle.laws.specs.Ranges.{first, below, tab, overlay}
use Rattle.dimension.specs.Dimension as D
use Rattle.rules.specs.Kinds.{op_word}
use Rattle.rules.specs.Layout.{kind_count, row_count}
use Rattle.rules.specs.Catalog.{Kind, Row, Catalog, id_at, kind_at, kind_from, row_at, row_from, catalog_in, find, link, meant}
use Rattle.rules.specs.Table.{entries_of, in_force, index_word, kind_word, table_word}
use Rattle.std.specs.declared.option.Option.TheVariants.{None}
use Rattle.table.specs.Shown.{exponents_of}
use Rattle.written.specs.declared.links.Links.{Links}
use Rattle.written.specs.declared.rows.Named.{Named}

-- f 0, .., f (n - 1), one after the other
unfoldable pub flat : (ℕ → List ℕ) → ℕ → List ℕ
flat f zero = []
flat f (suc n) = flat f n ++ f n

-- ---- links
-- what the id at byte `at` of kind k names
unfoldable pub link_of : List ℕ → ℕ → ℕ → Option ℕ
link_of s at k = link (catalog_in s) (id_at s (kind_at k + at))

-- the first of n kinds whose id at byte `at` names j
unfoldable pub first_to : List ℕ → ℕ → ℕ → ℕ → Option ℕ
first_to s at n j = first (λ i. meant j (link_of s at i)) n

-- what is listed of kind k when n kinds are seen: what its own ids name, if it is one of them, and who names it
unfoldable pub links_by : List ℕ → ℕ → ℕ → Links
links_by s n k = record { difference = below n None (link_of s 32) k; target = below n None (link_of s 64) k; named = first_to s 32 n k; rate = first_to s 64 n k }

-- past the kinds nothing is listed
abbrev pub no_links : Links
no_links = record { difference = None; target = None; named = None; rate = None }

-- ---- kinds
-- the role of a kind with difference d that is first named as a difference by f
unfoldable pub role_by : Option ℕ → Option ℕ → ℕ
role_by d f = cond (is_some d) 1 (cond (is_some f) 2 0)

-- the marks of what is declared, by its links
unfoldable pub marks_by : Kind → Links → List ℕ
marks_by x l = cond (is_some x.dims) 1 0 ∷ x.grade ∷ role_by l.difference l.named ∷ index_word l.difference ∷ index_word l.target ∷ index_word l.rate ∷ 0 ∷ 0 ∷ []

-- its 32 words
unfoldable pub kind_by : Kind → Links → List ℕ
kind_by x l = exponents_of (found x.dims (λ e. e) D.one) ++ marks_by x l

-- kind k by the list of links
unfoldable pub kind_in : List ℕ → List Links → ℕ → List ℕ
kind_in s ls k = kind_by (kind_from s (kind_at k)) (get_or ls k no_links)

-- word i of all kinds
unfoldable pub kinds_word : Catalog → ℕ → ℕ
kinds_word C i = kind_word C (i / 32) (i % 32)

-- ---- rows
-- a row's words, and where it also counts turned those of the turned pair
unfoldable pub entry_words : ℕ → ℕ → ℕ → ℕ → Bool → List ℕ
entry_words l o r k turned = (l ∷ o ∷ r ∷ k ∷ []) ++ cond turned (r ∷ o ∷ l ∷ k ∷ []) []

-- the entries of a row by what its ids name
unfoldable pub entries_by : Row → Named → List ℕ
entries_by x n = found n.left (λ l. found n.right (λ r. found n.result (λ k. entry_words l (op_word x.op) r k (x.commutative && not (eqb l r))) []) []) []

-- what row i of an image enters
unfoldable pub row_entries : List ℕ → ℕ → List ℕ
row_entries s i = entries_of (catalog_in s) (row_from s (row_at s i))

-- what the ids of a row name
unfoldable pub named_by : Catalog → Row → Named
named_by C x = record { left = find C x.left; right = find C x.right; result = find C x.result }

-- what the ids of row i of an image name
unfoldable pub row_named : List ℕ → ℕ → Named
row_named s i = named_by (catalog_in s) (row_from s (row_at s i))

-- past the rows nothing is named
abbrev pub none_named : Named
none_named = record { left = None; right = None; result = None }

-- what the ids of all rows name, in a list of 200
abbrev pub named_in : List ℕ → List Named
named_in s = overlay (tab (row_named s) (row_count s)) (replicate 200 none_named)

-- the words of the rows in force, with zeros past them
unfoldable pub rows_in : List ℕ → List ℕ
rows_in s = overlay (in_force (catalog_in s)) (replicate 1600 0)

-- ---- the table
-- its front: the head, and behind it the kinds
unfoldable pub front_in : List ℕ → List ℕ
front_in s = tab (table_word (catalog_in s)) (16 + 32 * kind_count s)

-- the counts are within their limits, and the front has room in n words; other counts are refused before a compilation asks
unfoldable pub fits_in : List ℕ → ℕ → Bool
fits_in s n = leb (kind_count s) 240 && leb (row_count s) 200 && leb (16 + 32 * kind_count s) n

-- what words t that are lent for the front hold then
unfoldable pub front_after : List ℕ → List ℕ → List ℕ
front_after s t = cond (fits_in s (length t)) (overlay (front_in s) t) t

-- the rows and what their ids name, beside n such words
unfoldable pub rows_for : List ℕ → ℕ → List ℕ
rows_for s n = cond (fits_in s n) (rows_in s) (replicate 1600 0)

unfoldable pub named_for : List ℕ → ℕ → List Named
named_for s n = cond (fits_in s n) (named_in s) (replicate 200 none_named)
