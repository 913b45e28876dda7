-- What a compilation guarantees, of every image that compiles. Assumes nothing.
use Prim.Native.Nat.{ℕ, suc, ◌+◌, ◌*◌, ◌/◌, ◌<◌, ◌≤◌}
use mathlib.Core.Path.{◌≡◌, refl, sym, ◌∙◌, subst}
use mathlib.Core.Bool.{true, true≢false}
use mathlib.Core.List.{List}
use Rattle.std.specs.declared.option.Option.{Option}
use Rattle.std.specs.declared.option.Option.TheVariants.{None, Some}
use native.Mathlib.Nat.{le_trans}
use native.Mathlib.Decide.{dec_le}
use native.Mathlib.Omega.{arith}
use lib.ListN.{length}
use borrow.Author.Tests.{lt-ltb}
use Rattle.laws.specs.Options.{is_some}
use Rattle.laws.specs.Out.{given}
use Rattle.laws.proofs.First.{first_here, first_misses}
use Rattle.dimension.specs.Dimension as D
use Rattle.dimension.specs.declared.grade.ProductOp.{ProductOp}
use Rattle.rules.specs.Kinds.{Kinds, fits, op_word}
use Rattle.rules.specs.Refusal.{absent}
use Rattle.rules.specs.Catalog.{Catalog, catalog_in, covers, rate_among, row_among, kinds_of, rows_of}
use Rattle.rules.specs.Compile.{Compiled}
use Rattle.rules.specs.Image.{compile_image, table_after}
use Rattle.rules.specs.Table.{word, is_row, in_force}
use Rattle.rules.specs.Table as table
use Rattle.guarantees.specs.Premises.{IsRow}
use Rattle.guarantees.specs.Images.{Bytes}
use Rattle.guarantees.specs.WellCompiled.{FittingDifference, FittingRate, LinearOne, ScalarPoint, FittingRow, row_entry, WellCompiled}
use Rattle.guarantees.proofs.Picks.{picked_has}
use Rattle.guarantees.proofs.Carried.{carries_tells, tells_fits}
use Rattle.guarantees.proofs.ProductLaws.{resolve_twins}
use Rattle.guarantees.proofs.KindRules.{difference_in, target_in, difference_tells, no_difference, dimensionless_tells, time_tells, rate_tells, one_earlier}
use Rattle.guarantees.proofs.RowRules.{Accepted, row_tells, covers_tells}
use Rattle.guarantees.proofs.Compiles.{Passed, compiled_of, covered_only, guaranteed}
use Rattle.guarantees.proofs.Images.{image_passes, image_compiled}
use Rattle.guarantees.proofs.Laid.{image_tells}
use Rattle.guarantees.proofs.Written.{Holds, head_rows, role_word, row_word}
use Rattle.guarantees.proofs.ReadBack.{Fits}
use Rattle.guarantees.proofs.Entries.{in_four}
use Rattle.guarantees.proofs.EntriesIn.{entries_in_law}
use Rattle.guarantees.proofs.InForce.{rows_said}
use Rattle.guarantees.proofs.OneEntry.{First, left_is_law, op_is, right_is, earlier, all_first}
use Rattle.guarantees.proofs.Lent.{image_fits, table_holds}

-- of two numbers that are not one the other is less
one : (i j : ℕ) → (i < j → ⊥) → (j < i → ⊥) → i ≡ j
one i j p q = go (dec_le (suc i) j) (dec_le (suc j) i)
  where
    go : Dec (suc i ≤ j) → Dec (suc j ≤ i) → i ≡ j
    go (yes l) m = absurd (p l)
    go (no l) (yes m) = absurd (q m)
    go (no l) (no m) = omega arith

fitting_row : (K : Kinds) (l : ℕ) (op : ProductOp) (r k : ℕ) → IsRow K l op r k → FittingRow K l op r k
fitting_row K l op r k h =
    let c = carries_tells K h.of k h.carried in
    let p = picked_has (fits K h.of) K.count k h.below (tells_fits K h.of k c h.no_point) in
    record { of = h.of; derived = h.derived; dims = c.dims; grade = c.grade; several = rw (resolve_twins K l op r h.of h.several) at h.several; place = p.0; among = p.1; named = p.2 }

module _ (C : Catalog) (passed : Passed C) (fit : Fits C) where
  abbrev K : Kinds
  K = kinds_of C

  -- ---- kinds
  fitting_difference : (k d : ℕ) → K.difference k ≡ Some d → FittingDifference K k d
  fitting_difference k d e =
      let h = difference_tells C k d (passed.differences k (difference_in C fit.quiet k e)) e in
      record { below = h.0.below; dims = h.0.dims; no_point = h.1 }

  fitting_rate : (k t : ℕ) → K.rate_of k ≡ Some t → FittingRate K k t
  fitting_rate k t e =
      let b = target_in C fit.quiet k e in
      let h = rate_tells C k t b (passed.rates k b) e in
      let o = h.1 in
      let c = carries_tells K (record { dims = (D.or_one (D.product h.0.dims o.1)); grade = K.grade k }) t (h.0.fits o.0 o.1 o.2 o.3) in
      record { no_points = h.0.no_points; over = o.0; timed = o.2; rate_dims = h.0.dims; over_dims = o.1; resolved = (h.0.resolved, o.3); dims = c.dims; grades = c.grade }

  one_rate : (j k t : ℕ) → K.rate_of j ≡ Some t → K.rate_of k ≡ Some t → j ≡ k
  one_rate j k t p q = one j k (λ l. one_earlier C j k t (alone k q) l p) (λ l. one_earlier C k j t (alone j p) l q)
    where
      alone : (i : ℕ) → K.rate_of i ≡ Some t → rate_among C i t ≡ None
      alone i e = let b = target_in C fit.quiet i e in (rate_tells C i t b (passed.rates i b) e).2

  linear_one_law : (o : ℕ) → K.dimensionless ≡ Some o → LinearOne K o
  linear_one_law o e =
      let h = dimensionless_tells C o passed.dimensionless e in
      record { below = h.0.below; no_point = h.0.linear; no_difference = no_difference C fit.quiet o h.1; dims = h.0.dims }

  scalar_point : (t : ℕ) → K.time ≡ Some t → ScalarPoint K t
  scalar_point t e = let h = time_tells C t passed.time e in let p = there (K.difference t) h.0 in record { over = p.0; is_point = p.1; scalar = h.1 }
    where
      there : (o : Option ℕ) → is_some o ≡ true → (d : ℕ) × (o ≡ Some d)
      there (Some d) e = (d, refl)
      there None e = absurd (true≢false (sym e))

  -- ---- rows
  accepted : (i : ℕ) → i < C.row_count → Accepted C i
  accepted i h = row_tells C i (passed.rows i h)

  one_row : (l : ℕ) (op : ProductOp) (r i j : ℕ) → i < C.row_count → j < C.row_count → covers C l op r (C.row i) ≡ true → covers C l op r (C.row j) ≡ true → i ≡ j
  unfolding row_among
  one_row l op r i j hi hj p q = one i j (λ m. before i j m hj p q) (λ m. before j i m hi q p)
    where
      before : (i j : ℕ) → i < j → j < C.row_count → covers C l op r (C.row i) ≡ true → covers C l op r (C.row j) ≡ true → ⊥
      before i j m h p q =
          let n : row_among C j l op r ≡ None = covered_only C j (accepted j h) l op r (covers_tells C l op r (C.row j) q) in
          true≢false (sym p ∙ first_misses (λ k. covers C l op r (C.row k)) j i n m)

  -- ---- the words
  module _ (t : List ℕ) (holds : Holds t C) where
    quarter : (n m : ℕ) → n ≡ 4 * m → n / 4 ≡ m
    quarter n m e = omega arith

    abbrev firsts : (m : ℕ) × (length (in_force C) ≡ 4 * m) × ((i : ℕ) → i < m → First (in_force C) i)
    firsts = all_first C C.row_count accepted

    count : word t 1 ≡ firsts.0
    count = head_rows t C holds ∙ quarter (length (in_force C)) firsts.0 firsts.1

    fewer : (m n : ℕ) → m ≤ 2 * n → n ≤ 200 → m ≤ 400
    fewer m n h k = omega arith

    few : firsts.0 ≤ 400
    few = let g = in_four C C.row_count in fewer firsts.0 C.row_count (omega (arith, g.1, g.2, firsts.1)) fit.rows

    entry_word : (m f : ℕ) → m < firsts.0 → f < 4 → row_entry t m f ≡ word (in_force C) (4 * m + f)
    entry_word m f h l =
        let z : 7696 + 4 * m + f ≡ 7696 + (4 * m + f) = omega arith in
        let b : m < 400 = le_trans h few in
        rw z (row_word t C holds (4 * m + f) (omega arith))

    left_word : (m : ℕ) → m < firsts.0 → row_entry t m 0 ≡ word (in_force C) (4 * m)
    left_word m h = let z : 4 * m + 0 ≡ 4 * m = omega arith in entry_word m 0 h (omega arith) ∙ rw z

    one_entry : (m n : ℕ) → m < word t 1 → n < word t 1 → row_entry t m 0 ≡ row_entry t n 0 → row_entry t m 1 ≡ row_entry t n 1 → row_entry t m 2 ≡ row_entry t n 2 → m ≡ n
    one_entry m n hm hn p q r =
        let a : m < firsts.0 = rw count at hm in
        let b : n < firsts.0 = rw count at hn in
        let u = sym (left_word m a) ∙ p ∙ left_word n b in
        let v = sym (entry_word m 1 a (omega arith)) ∙ q ∙ entry_word n 1 b (omega arith) in
        let w = sym (entry_word m 2 a (omega arith)) ∙ r ∙ entry_word n 2 b (omega arith) in
        one m n (λ l. earlier (in_force C) n (firsts.2 n b) m l u v w) (λ l. earlier (in_force C) m (firsts.2 m a) n l (sym u) (sym v) (sym w))

    -- what the first entry for a pair says is in force
    said : (m : ℕ) → m < firsts.0 → (f : First (in_force C) m) → rows_of C f.left f.op f.right ≡ Some (word (in_force C) (4 * m + 3))
    unfolding table.rows_of
    said m h f =
        let i = entries_in_law C C.row_count in
        let k : word (in_force C) (4 * m + 3) < C.kind_count = (i.2 m (omega (arith, h, i.1, firsts.1))).3 in
        let b : word (in_force C) (4 * m + 3) < absent = le_trans k (le_trans fit.kinds (omega arith)) in
        let g = first_here (is_row (in_force C) f.left f.op f.right) m firsts.0 h f.none_before refl f.is in
        let e : table.rows_of (in_force C) f.left f.op f.right ≡ Some (word (in_force C) (4 * m + 3)) = rw (quarter (length (in_force C)) firsts.0 firsts.1, g, lt-ltb (word (in_force C) (4 * m + 3)) absent b) in
        rw (← rows_said C passed fit.kinds) e

    entry : (m : ℕ) → m < word t 1 → (op : ProductOp) × (row_entry t m 1 ≡ op_word op) × (rows_of C (row_entry t m 0) op (row_entry t m 2) ≡ Some (row_entry t m 3))
    entry m h =
        let a : m < firsts.0 = rw count at h in
        let f = firsts.2 m a in
        let z : row_entry t m 0 ≡ f.left = left_word m a ∙ left_is_law (in_force C) m f in
        let y : row_entry t m 2 ≡ f.right = entry_word m 2 a (omega arith) ∙ right_is (in_force C) m f in
        (f.op, entry_word m 1 a (omega arith) ∙ op_is (in_force C) m f, rw (z, y, entry_word m 3 a (omega arith)) (said m a f))

    well : WellCompiled C (compiled_of C) t
    well = record {
      differences = fitting_difference;
      rates = fitting_rate;
      one_rate = one_rate;
      dimensionless = linear_one_law;
      time = scalar_point;
      rows = λ l op r k e. fitting_row K l op r k ((guaranteed C passed fit.quiet fit.grade fit.declared).row l op r k e);
      one_row = one_row;
      one_entry = one_entry;
      entries = entry;
      roles = λ k h. role_word t C holds k (le_trans h fit.kinds) h;
    }

-- the image s, compiled into the words `old`
pub well_compiled : (s old : List ℕ) → Bytes s → (c : Compiled) → compile_image s (length old) ≡ given c → WellCompiled (catalog_in s) c (table_after s old)
well_compiled s old bytes c e =
    subst (λ (d : Compiled). WellCompiled (catalog_in s) d (table_after s old)) (image_compiled s bytes (length old) c e)
    (well (catalog_in s) (image_passes s bytes (length old) c e) (image_fits s bytes (image_tells s (length old) c e).0) (table_after s old) (table_holds s old bytes c e))
