-- What the rows enter, one after the other. Assumes nothing.
use Prim.Native.Nat.{ℕ, zero, suc, ◌+◌, ◌<◌, ◌≤◌}
use mathlib.Core.Path.{◌≡◌, refl, ◌∙◌, ap}
use mathlib.Core.List.{List, ◌++◌}
use Rattle.std.specs.declared.option.Option.{Option}
use native.Mathlib.Nat.{le_antisymm}
use lib.ListN.{length, get_or, drop, replicate, get_or-append}
use Rattle.laws.specs.Ranges.{tab, overlay}
use Rattle.laws.proofs.Tab.{length_tab, tab_at}
use Rattle.rules.specs.Layout.{row_count}
use Rattle.rules.specs.Catalog.{Catalog, Row, id_at, row_from, row_at, catalog_in, find}
use Rattle.rules.specs.Table.{entries_of, entries_in, in_force}
use Rattle.written.specs.Shown.{flat, entry_words, entries_by, row_entries, named_by, row_named, none_named, named_in}
use Rattle.written.specs.declared.rows.Named.{Named}

-- ---- one row, by what its ids name
pub entries_by_law : (C : Catalog) (x : Row) → entries_by x (named_by C x) ≡ entries_of C x
unfolding entries_by entries_of entry_words named_by
entries_by_law C x = refl

-- of what its ids name
pub row_named_law : (s : List ℕ) (i : ℕ) {p : ℕ} {l r k : Option ℕ} → p ≡ row_at s i → l ≡ find (catalog_in s) (id_at s p) → r ≡ find (catalog_in s) (id_at s (p + 32)) → k ≡ find (catalog_in s) (id_at s (p + 64))
    → ◌≡◌ {A = Named} (record { left = l; right = r; result = k }) (row_named s i)
unfolding row_named named_by row_from
row_named_law s i q x y z = rw (x, y, z, q)

-- row i of an image, by what is listed of it
pub named_at : (s : List ℕ) (i : ℕ) (z : Named) → i < row_count s → get_or (named_in s) i z ≡ row_named s i
named_at s i z h =
    let l : i < length (tab (row_named s) (row_count s)) = rw (length_tab (row_named s) (row_count s)) h in
    get_or-append (tab (row_named s) (row_count s)) (drop (length (tab (row_named s) (row_count s))) (replicate 200 none_named)) z i l ∙ tab_at (row_named s) (row_count s) i z h

pub row_entered : (s : List ℕ) (i : ℕ) (z : Named) {ns : List Named} {p : ℕ} {v : List ℕ} → ns ≡ named_in s → i < row_count s → p ≡ row_at s i → v ≡ entries_by (row_from s p) (get_or ns i z) → v ≡ row_entries s i
unfolding row_entries row_named
row_entered s i z e n q w = w ∙ rw (q, e, named_at s i z n) (entries_by_law (catalog_in s) (row_from s (row_at s i)))

-- ---- all rows
pub flat_entries : (s : List ℕ) (n : ℕ) → flat (row_entries s) n ≡ entries_in (catalog_in s) n
unfolding flat entries_in row_entries catalog_in
flat_entries s zero = refl
flat_entries s (suc n) = ap (λ (l : List ℕ). l ++ entries_of (catalog_in s) (row_from s (row_at s n))) (flat_entries s n)

pub in_force_law : (s : List ℕ) → flat (row_entries s) (row_count s) ≡ in_force (catalog_in s)
unfolding catalog_in
in_force_law s = flat_entries s (row_count s)

-- a loop over them has come to the end
pub rows_end : (s : List ℕ) (i n used : ℕ) {t : List ℕ} (t₀ : List ℕ) → t ≡ overlay (flat (row_entries s) i) t₀ → used ≡ length (flat (row_entries s) i) → n ≡ row_count s → i ≤ n → n ≤ i
    → (t ≡ overlay (in_force (catalog_in s)) t₀) × (used ≡ length (in_force (catalog_in s)))
rows_end s i n used t₀ e q z l m = let y : i ≡ row_count s = le_antisymm l m ∙ z in (e ∙ rw (y, in_force_law s), q ∙ rw (y, in_force_law s))
