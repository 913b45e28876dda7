-- The table in two parts, its front and its rows. Assumes nothing.
use Prim.Native.Nat.{ℕ, ◌+◌, ◌*◌, ◌-◌, ◌/◌, ◌%◌, ◌<◌, ◌≤◌}
use mathlib.Core.Path.{◌≡◌, refl, sym, ◌∙◌, ap}
use mathlib.Core.Bool.{true}
use mathlib.Core.List.{List, [], ◌∷◌, ◌++◌, append_assoc, append-nil}
use native.Mathlib.Omega.{arith}
use borrow.Author.Tests.{le-leb}
use lib.ListN.{length, take, drop, replicate, length-append, length-drop, drop_of_length-le}
use borrow.Rule.Slice.PartMut.{put_mid}
use Rattle.std.proofs.lemmas.Slice.{put_mid-paste}
use lib.Seq.{paste, take_all, take_at, length-take-le, drop-drop, drop-append-add}
use Rattle.laws.specs.Ranges.{tab, overlay}
use Rattle.laws.proofs.Tab.{length_tab, tab_same}
use Rattle.rules.specs.Layout.{kind_count, row_count}
use Rattle.rules.specs.Catalog.{Catalog, id_at, catalog_in, link}
use Rattle.rules.specs.Table.{in_force, index_word, head_words, table_word}
use Rattle.written.specs.Shown.{kinds_word, front_in, fits_in}
use Rattle.written.proofs.Places.{word_of_kind}
use Rattle.written.proofs.Kinded.{tab_append, count_in}
use Rattle.written.proofs.Pasted.{paste_over}

-- ---- the words of the front
-- the head, by how many words the rows in force take
pub head_told : (s : List ℕ) (used : ℕ) {v : List ℕ} → used ≡ length (in_force (catalog_in s)) → v ≡ kind_count s ∷ used / 4 ∷ index_word (link (catalog_in s) (id_at s 12)) ∷ index_word (link (catalog_in s) (id_at s 44)) ∷ [] → v ≡ head_words (catalog_in s)
unfolding head_words catalog_in
head_told s used e q = q ∙ rw e

-- over zeros
first_told : (C : Catalog) {head first : List ℕ} → head ≡ head_words C → first ≡ paste (replicate 16 0) 0 head 4 → first ≡ tab (table_word C) 16
unfolding tab table_word head_words
first_told C h f = f ∙ rw h

-- the kinds behind it
kind_behind : (C : Catalog) (n i : ℕ) → n ≤ C.kind_count → n ≤ 240 → i < 32 * n → table_word C (16 + i) ≡ kinds_word C i
unfolding kinds_word
kind_behind C n i h k l =
    let z : 16 + i ≡ 16 + 32 * (i / 32) + i % 32 = omega arith in
    ap (table_word C) z ∙ word_of_kind C (i / 32) (i % 32) (omega arith) (omega arith) (omega arith)

front_split : (s : List ℕ) → kind_count s ≤ 240 → front_in s ≡ tab (table_word (catalog_in s)) 16 ++ tab (kinds_word (catalog_in s)) (32 * kind_count s)
unfolding front_in
front_split s h =
    let l : kind_count s ≤ (catalog_in s).kind_count = rw (count_in s) (omega arith) in
    tab_append (table_word (catalog_in s)) 16 (32 * kind_count s)
    ∙ ap (λ (k : List ℕ). tab (table_word (catalog_in s)) 16 ++ k) (tab_same (λ i. table_word (catalog_in s) (16 + i)) (kinds_word (catalog_in s)) (32 * kind_count s) (λ i m. kind_behind (catalog_in s) (kind_count s) i l h m))

-- ---- one list over the front of another, then more behind it
pub over_over : (p q t : List ℕ) → overlay (p ++ q) (overlay p t) ≡ overlay (p ++ q) t
over_over p q t = rw (length-append p q, drop-append-add p (drop (length p) t) (length q), drop-drop (length q) (length p) t)

-- and over the part of a list from a on, which then stands in its place again
pub put_tail : (t q : List ℕ) (a : ℕ) {v : List ℕ} → a ≤ length t → v ≡ overlay q (take (length t - a) (drop a t)) → take a t ++ (v ++ drop (length t - a) (drop a t)) ≡ overlay (take a t ++ q) t
put_tail t q a {v} h e =
    let l : length (drop a t) ≤ length t - a = rw (length-drop a t) (omega arith) in
    let m : length (take a t) ≡ a = length-take-le a t h in
    rw (e, take_all (length t - a) (drop a t) l, drop_of_length-le (drop a t) l, append-nil, length-append (take a t) q, m, drop-drop (length q) a t, append_assoc)

-- ---- the front of an image put over that of t: u has its head, and the kinds go to the part of u behind it
module _ (s t : List ℕ) {head first kinds u x y : List ℕ} (used : ℕ) (h : kind_count s ≤ 240) (e : used ≡ length (in_force (catalog_in s)))
    (i : head ≡ kind_count s ∷ used / 4 ∷ index_word (link (catalog_in s) (id_at s 12)) ∷ index_word (link (catalog_in s) (id_at s 44)) ∷ [])
    (f : first ≡ put_mid 0 4 (replicate 16 0) x) (m : x ≡ head) (p : u ≡ put_mid 0 16 t y) (n : y ≡ first) (k : kinds ≡ overlay (tab (kinds_word (catalog_in s)) (32 * kind_count s)) (take (length u - 16) (drop 16 u))) where
  first_is : first ≡ tab (table_word (catalog_in s)) 16
  first_is = first_told (catalog_in s) (head_told s used e i) (f ∙ put_mid-paste 0 4 (replicate 16 0) x head 4 m refl (sym (ap length i)))

  first_long : length first ≡ 16
  first_long = ap length first_is ∙ length_tab (table_word (catalog_in s)) 16

  headed : u ≡ overlay first t
  headed = p ∙ put_mid-paste 0 16 t y first 16 n refl (sym first_long) ∙ paste_over [] t first 0 16 refl (omega (arith, first_long)) ∙ ap (λ (l : List ℕ). overlay l t) (take_all 16 first (omega (arith, first_long)))

  headed_front : take 16 u ≡ first
  headed_front = ap (take 16) headed ∙ take_at first (drop (length first) t) 16 first_long

  headed_long : 16 ≤ length u
  headed_long = rw (headed, length-append first (drop (length first) t)) (omega (arith, first_long))

  pub front_made : take 16 u ++ (kinds ++ drop (length u - 16) (drop 16 u)) ≡ overlay (front_in s) t
  front_made =
      put_tail u (tab (kinds_word (catalog_in s)) (32 * kind_count s)) 16 headed_long k
      ∙ rw (headed_front, headed) (over_over first (tab (kinds_word (catalog_in s)) (32 * kind_count s)) t)
      ∙ ap (λ (l : List ℕ). overlay l t) (ap (λ (l : List ℕ). l ++ tab (kinds_word (catalog_in s)) (32 * kind_count s)) first_is ∙ sym (front_split s h))

-- ---- the limits, and room for the front in n words
pub fits_told : (s : List ℕ) (n : ℕ) → kind_count s ≤ 240 → row_count s ≤ 200 → 16 + 32 * kind_count s ≤ n → fits_in s n ≡ true
unfolding fits_in
fits_told s n h l m = rw (le-leb (kind_count s) 240 h, le-leb (row_count s) 200 l, le-leb (16 + 32 * kind_count s) n m)
