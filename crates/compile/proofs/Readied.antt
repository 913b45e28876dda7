-- An image and a table that 1, 5, 2, 3 and 4 don't refuse: the front that is made of the image is read as the kinds that it declares, and with the
-- rows it makes up the table. Assumes nothing.
use Prim.Native.Nat.{ℕ, ◌+◌, ◌*◌, ◌-◌, ◌/◌, ◌%◌, ◌<◌, ◌≤◌}
use mathlib.Core.Path.{◌≡◌, refl, sym, ◌∙◌, ap, subst}
use mathlib.Core.Bool.{Bool, true, false}
use mathlib.Core.List.{List, ◌++◌}
use native.Mathlib.Omega.{arith}
use borrow.Author.Tests.{ltb-true, ltb-false}
use lib.Dec.{ltb}
use lib.ListN.{length, get_or, replicate, length-append, length-replicate, get_or-replicate, get_or-append, get_or-eq_default}
use lib.Seq.{ext_get_or, get_or-append-add}
use Rattle.laws.specs.Out.{given}
use Rattle.laws.specs.Ranges.{overlay}
use Rattle.laws.proofs.Overlay.{overlay_length}
use Rattle.laws.proofs.Tab.{length_tab, tab_at}
use Rattle.rules.specs.Layout.{kind_count, row_count}
use Rattle.rules.specs.Catalog.{Catalog, catalog_in}
use Rattle.rules.specs.Image.{lent_check}
use Rattle.rules.specs.Table.{word, in_force, table_word, table_words}
use Rattle.guarantees.specs.Images.{Bytes}
use Rattle.guarantees.proofs.Laid.{LaidOut, lent_tells, lent_room, few_kinds, few_rows}
use Rattle.guarantees.proofs.Lent.{image_fits}
use Rattle.guarantees.proofs.Written.{Holds, head_kinds}
use Rattle.guarantees.proofs.ReadBack.{kinds_back}
use Rattle.written.specs.declared.rows.Named.{Named}
use Rattle.written.specs.Shown.{front_in, front_after, fits_in, rows_in, rows_for, named_in, named_for}
use Rattle.written.proofs.Kinded.{count_in}
use Rattle.written.proofs.Parts.{fits_told}
use Rattle.written.proofs.Pasted.{over_zeros}
use Rattle.written.proofs.Places.{word_at, word_past_kinds, word_of_rows}
use Rattle.compile.specs.Shown.{Reads, whole}
use Rattle.compile.proofs.Prefix as prefix
use Rattle.compile.proofs.FrontKinds.{kinds_same}

-- ---- the table's words
words_hold : (C : Catalog) → Holds (table_words C) C
words_hold C i h = word_at C i h

words_long : (C : Catalog) → length (table_words C) ≡ 9296
unfolding table_words
words_long C = length_tab (table_word C) 9296

-- zeros between the last kind and the rows
word_past : (C : Catalog) (i : ℕ) → 16 + 32 * C.kind_count ≤ i → i < 7696 → table_word C i ≡ 0
word_past C i h l =
    let z : i ≡ 16 + 32 * ((i - 16) / 32) + (i - 16) % 32 = omega arith in
    ap (table_word C) z ∙ word_past_kinds C ((i - 16) / 32) ((i - 16) % 32) (omega arith) (omega arith) (omega arith)

zero_at : (n i : ℕ) → i < n → get_or {A = ℕ} (replicate n 0) i 0 ≡ 0
zero_at n i h = get_or-replicate n i 0 0 h

module _ (s : List ℕ) (bytes : Bytes s) (room : ℕ) (e : lent_check s room ≡ given tt) where
  laid : LaidOut s
  laid = lent_tells s room e

  pub kinds_few : kind_count s ≤ 240
  kinds_few = few_kinds s laid

  pub rows_few : row_count s ≤ 200
  rows_few = few_rows s laid

  pub room_enough : 9296 ≤ room
  room_enough = lent_room s room e

  -- ---- the parts made of the image, the front t over the zeros z
  module _ {z : List ℕ} (o : z ≡ replicate (length z) 0) (r : 16 + 32 * kind_count s ≤ length z) (b : length z ≤ 7696) where
    fits : fits_in s (length z) ≡ true
    fits = fits_told s (length z) kinds_few rows_few r

    pub named_made : {l : List Named} → l ≡ named_for s (length z) → l ≡ named_in s
    unfolding named_for
    named_made q = q ∙ rw fits

    module _ {rows : List ℕ} (q : rows ≡ rows_for s (length z)) where
      pub rows_made : rows ≡ rows_in s
      unfolding rows_for
      rows_made = q ∙ rw fits

      pub rows_long : length rows ≡ 1600
      unfolding rows_in catalog_in
      rows_long = prefix.rows_long (catalog_in s) rows_few rows_made

      row_at : (j : ℕ) → word rows j ≡ table_word (catalog_in s) (7696 + j)
      unfolding rows_in
      row_at j = rw rows_made (over_zeros (in_force (catalog_in s)) 1600 j) ∙ sym (word_of_rows (catalog_in s) j)

    module _ {t : List ℕ} (f : t ≡ front_after s z) where
      front_made : t ≡ overlay (front_in s) z
      unfolding front_after
      front_made = f ∙ rw fits

      pub front_long : length t ≡ length z
      unfolding front_in
      front_long = ap length front_made ∙ overlay_length (front_in s) z (rw (length_tab (table_word (catalog_in s)) (16 + 32 * kind_count s)) r)

      front_at : (i : ℕ) → i < 7696 → word t i ≡ table_word (catalog_in s) i
      unfolding front_in
      front_at i l = ap (λ (w : List ℕ). word w i) (front_made ∙ ap (λ (w : List ℕ). overlay (front_in s) w) o) ∙ over_zeros (front_in s) (length z) i ∙ go (ltb i (16 + 32 * kind_count s)) refl
        where
          go : (y : Bool) → ltb i (16 + 32 * kind_count s) ≡ y → word (front_in s) i ≡ table_word (catalog_in s) i
          go true p = tab_at (table_word (catalog_in s)) (16 + 32 * kind_count s) i 0 (ltb-true i (16 + 32 * kind_count s) p)
          go false p =
              let m = ltb-false i (16 + 32 * kind_count s) p in
              get_or-eq_default (front_in s) 0 (rw (length_tab (table_word (catalog_in s)) (16 + 32 * kind_count s)) m) ∙ sym (word_past (catalog_in s) i (rw (count_in s) m) l)

      alike : (i : ℕ) → i < 7696 → word t i ≡ word (table_words (catalog_in s)) i
      alike i l = front_at i l ∙ sym (words_hold (catalog_in s) i (omega arith))

      counted : word (table_words (catalog_in s)) 0 ≡ kind_count s
      counted = head_kinds (table_words (catalog_in s)) (catalog_in s) (words_hold (catalog_in s)) ∙ count_in s

      pub front_read : Reads t s
      front_read =
          let k = kinds_few in
          kinds_same t (table_words (catalog_in s)) (kind_count s) (omega (arith, alike 0 (omega arith), counted)) (omega (arith, counted)) (λ i l. alike i (omega arith))
          ∙ kinds_back (table_words (catalog_in s)) (catalog_in s) (words_hold (catalog_in s)) (image_fits s bytes laid)

      -- ---- both parts
      module _ {rows : List ℕ} (q : rows ≡ rows_for s (length z)) where
        abbrev between : List ℕ
        between = replicate (7696 - length t) 0

        between_long : length between ≡ 7696 - length t
        between_long = length-replicate {A = ℕ} (7696 - length t) 0

        front_short : length t ≤ 7696
        front_short = omega (arith, front_long, b)

        whole_long : length (whole t rows) ≡ 9296
        unfolding whole
        whole_long = length-append t (between ++ rows) ∙ omega (arith, length-append between rows, between_long, rows_long q, front_short)

        word_behind : (j : ℕ) → length t + j < 9296 → word (between ++ rows) j ≡ table_word (catalog_in s) (length t + j)
        word_behind j l = go (ltb j (7696 - length t)) refl
          where
            go : (y : Bool) → ltb j (7696 - length t) ≡ y → word (between ++ rows) j ≡ table_word (catalog_in s) (length t + j)
            go true p =
                let m = ltb-true j (7696 - length t) p in
                get_or-append between rows 0 j (omega (arith, between_long, m))
                ∙ zero_at (7696 - length t) j m
                ∙ sym (word_past (catalog_in s) (length t + j) (rw (count_in s) (omega (arith, front_long, r))) (omega arith))
            go false p =
                let m = ltb-false j (7696 - length t) p in
                let x : length between + (j - (7696 - length t)) ≡ j = omega (arith, between_long) in
                let y : 7696 + (j - (7696 - length t)) ≡ length t + j = omega (arith, front_short) in
                subst (λ (n : ℕ). word (between ++ rows) n ≡ word rows (j - (7696 - length t))) x (get_or-append-add between rows (j - (7696 - length t)) 0)
                ∙ row_at q (j - (7696 - length t))
                ∙ ap (table_word (catalog_in s)) y

        word_whole : (i : ℕ) → i < 9296 → word (whole t rows) i ≡ table_word (catalog_in s) i
        unfolding whole
        word_whole i l = go (ltb i (length t)) refl
          where
            go : (y : Bool) → ltb i (length t) ≡ y → word (whole t rows) i ≡ table_word (catalog_in s) i
            go true p =
                let m = ltb-true i (length t) p in
                get_or-append t (between ++ rows) 0 i m ∙ front_at i (omega (arith, front_short, m))
            go false p =
                let m = ltb-false i (length t) p in
                let x : length t + (i - length t) ≡ i = omega arith in
                subst (λ (n : ℕ). word (whole t rows) n ≡ table_word (catalog_in s) n) x (get_or-append-add t (between ++ rows) (i - length t) 0 ∙ word_behind (i - length t) (omega arith))

        pub whole_made : whole t rows ≡ table_words (catalog_in s)
        whole_made =
            ext_get_or 0 (whole t rows) (table_words (catalog_in s)) (whole_long ∙ sym (words_long (catalog_in s)))
            (λ i l. let m : i < 9296 = omega (arith, whole_long) in word_whole i m ∙ sym (words_hold (catalog_in s) i m))
