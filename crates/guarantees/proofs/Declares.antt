-- What an image that 4 does not refuse declares: grades 0 to 3, twelve exponents of 16-bit parts in lowest terms. Assumes nothing.
use Prim.Native.Nat.{ℕ, zero, suc, ◌+◌, ◌-◌, ◌*◌, ◌%◌, ◌<◌, ◌≤◌}
use mathlib.Core.Path.{◌≡◌, refl, sym, ◌∙◌, ap, subst}
use mathlib.Core.Bool.{Bool, true, false, ◌&&◌, ◌||◌, true≢false}
use mathlib.Core.List.{List}
use Rattle.std.specs.declared.option.Option.TheVariants.{None, Some}
use native.Mathlib.Omega.{arith}
use lib.Dec.{eqb, ltb, leb}
use borrow.Author.Tests.{eqb-true, eqb-false, eq-eqb, lt-ltb, le-leb, ltb-true, ltb-false}
use Rattle.laws.specs.Ranges.{tab}
use Rattle.laws.proofs.Cases.{or_neither}
use Rattle.laws.proofs.Below.{below_in, below_past}
use Rattle.laws.proofs.Tab.{length_tab, tab_at}
use Rattle.dimension.specs.Fraction as F
use Rattle.dimension.specs.Dimension as D
use Rattle.dimension.specs.declared.dimensions.Dimensions.{Dimensions}
use Rattle.rules.specs.Bytes.{byte, le2}
use Rattle.rules.specs.Layout.{kind_count, ids_wrong, exponent_wrong, kind_wrong}
use Rattle.rules.specs.Catalog.{Kind, absent_kind, exponent_at, dims_at, kind_from, kind_at, catalog_in}
use Rattle.guarantees.specs.Images.{Bytes}
use Rattle.guarantees.proofs.Missing.{read_declared}
use Rattle.guarantees.proofs.KindRules.{Quiet}
use Rattle.guarantees.proofs.Laid.{LaidOut, kind_fine_law}

-- ---- what no wrong byte tells of the record at p
module _ (s : List ℕ) (p : ℕ) where
  abbrev wrong_flag : ℕ → Bool
  wrong_flag i = eqb i (p + 144) && ltb 1 (byte s i)

  abbrev wrong_grade : ℕ → Bool
  wrong_grade i = eqb i (p + 145) && ltb 3 (byte s i)

  parts : (i : ℕ) → kind_wrong s p i ≡ false → (exponent_wrong s p i ≡ false) × (wrong_grade i ≡ false)
  unfolding kind_wrong
  parts i e =
      let a = or_neither (ids_wrong s p i || exponent_wrong s p i || wrong_flag i || wrong_grade i) _ e in
      let b = or_neither (ids_wrong s p i || exponent_wrong s p i || wrong_flag i) (wrong_grade i) a.0 in
      let c = or_neither (ids_wrong s p i || exponent_wrong s p i) (wrong_flag i) b.0 in
      ((or_neither (ids_wrong s p i) (exponent_wrong s p i) c.0).1, b.1)

  grade_small : kind_wrong s p (p + 145) ≡ false → byte s (p + 145) ≤ 3
  grade_small e = go (ltb 3 (byte s (p + 145))) refl
    where
      go : (t : Bool) → ltb 3 (byte s (p + 145)) ≡ t → byte s (p + 145) ≤ 3
      go true q =
          let w : true ≡ false = rw (eq-eqb (p + 145) (p + 145) refl, q) at (parts (p + 145) e).1 in
          absurd (true≢false w)
      go false q = ltb-false 3 (byte s (p + 145)) q

  -- where the denominator of base b stands
  abbrev denominator_at : ℕ → ℕ
  denominator_at b = p + (98 + 4 * b)

  positive : (n : ℕ) → (n ≡ 0 → ⊥) → 0 < n
  positive zero f = absurd (f refl)
  positive (suc n) f = omega arith

  -- a denominator, in a record whose dimensions are given
  denominator : (b : ℕ) → b < 12 → byte s (p + 144) ≡ 1 → exponent_wrong s p (denominator_at b) ≡ false → (0 < le2 s (denominator_at b)) × (le2 s (denominator_at b) ≤ 32767)
  unfolding exponent_wrong
  denominator b h flag e = go (eqb (le2 s (denominator_at b)) 0) refl (ltb 32767 (le2 s (denominator_at b))) refl
    where
      from : leb (p + 96) (denominator_at b) ≡ true
      from = le-leb (p + 96) (denominator_at b) (omega arith)

      to : ltb (denominator_at b) (p + 96 + 48) ≡ true
      to = lt-ltb (denominator_at b) (p + 96 + 48) (omega arith)

      fourth : (denominator_at b - p) % 4 ≡ 2
      fourth = omega arith

      go : (t : Bool) → eqb (le2 s (denominator_at b)) 0 ≡ t → (u : Bool) → ltb 32767 (le2 s (denominator_at b)) ≡ u → (0 < le2 s (denominator_at b)) × (le2 s (denominator_at b) ≤ 32767)
      go true q u r = let w : true ≡ false = rw (from, to, flag, fourth, q) at e in absurd (true≢false w)
      go false q true r = let w : true ≡ false = rw (from, to, flag, fourth, q, r) at e in absurd (true≢false w)
      go false q false r = (positive (le2 s (denominator_at b)) (eqb-false (le2 s (denominator_at b)) 0 q), ltb-false 32767 (le2 s (denominator_at b)) r)

module _ (s : List ℕ) (bytes : Bytes s) where
  le2_small : (i : ℕ) → le2 s i < 65536
  unfolding le2
  le2_small i = omega (arith, bytes i, bytes (i + 1))

  -- ---- the same of the catalog that the image declares
  module _ (laid : LaidOut s) where
    pub quiet : Quiet (catalog_in s)
    unfolding catalog_in
    quiet k h = below_past (kind_count s) absent_kind (λ k. kind_from s (kind_at k)) k h

    in_image : (k : ℕ) → k < kind_count s → (catalog_in s).kind k ≡ kind_from s (kind_at k)
    unfolding catalog_in
    in_image k h = below_in (kind_count s) absent_kind (λ k. kind_from s (kind_at k)) k h

    past_image : (k : ℕ) → kind_count s ≤ k → (catalog_in s).kind k ≡ absent_kind
    unfolding catalog_in
    past_image k h = below_past (kind_count s) absent_kind (λ k. kind_from s (kind_at k)) k h

    pub grades : (k : ℕ) → ((catalog_in s).kind k).grade ≤ 3
    unfolding kind_from
    grades k = go (ltb k (kind_count s)) refl
      where
        go : (t : Bool) → ltb k (kind_count s) ≡ t → ((catalog_in s).kind k).grade ≤ 3
        go true q =
            let h = ltb-true k (kind_count s) q in
            rw (in_image k h) (grade_small s (kind_at k) (kind_fine_law s laid k 145 h (omega arith)))
        go false q = rw (past_image k (ltb-false k (kind_count s) q)) (omega arith)

    exponent_declared : (k b : ℕ) → k < kind_count s → b < 12 → byte s (kind_at k + 144) ≡ 1 → F.Declared (exponent_at s (kind_at k + 96 + 4 * b))
    unfolding exponent_at
    exponent_declared k b h l flag =
        let z : kind_at k + 96 + 4 * b + 2 ≡ kind_at k + (98 + 4 * b) = omega arith in
        let d = denominator s (kind_at k) b l flag (parts s (kind_at k) (kind_at k + (98 + 4 * b)) (kind_fine_law s laid k (98 + 4 * b) h (omega arith))).0 in
        read_declared (le2 s (kind_at k + 96 + 4 * b)) (le2 s (kind_at k + 96 + 4 * b + 2)) (le2_small _) (rw z d.0) (rw z d.1)

    given_declared : (k : ℕ) → k < kind_count s → byte s (kind_at k + 144) ≡ 1 → D.Declared (D.dimensions (tab (λ b. exponent_at s (kind_at k + 96 + 4 * b)) 12))
    given_declared k h flag = record {
      twelve = length_tab (λ b. exponent_at s (kind_at k + 96 + 4 * b)) 12;
      declared = λ b l. rw (tab_at (λ b. exponent_at s (kind_at k + 96 + 4 * b)) 12 b F.zero l) (exponent_declared k b h l flag);
    }

    dims_declared : (k : ℕ) (a : Dimensions) → k < kind_count s → dims_at s (kind_at k) ≡ Some a → D.Declared a
    unfolding dims_at
    dims_declared k a h e = go (eqb (byte s (kind_at k + 144)) 1) refl
      where
        go : (t : Bool) → eqb (byte s (kind_at k + 144)) 1 ≡ t → D.Declared a
        go true q =
            let r : Some (D.dimensions (tab (λ b. exponent_at s (kind_at k + 96 + 4 * b)) 12)) ≡ Some a = rw q at e in
            let z : D.dimensions (tab (λ b. exponent_at s (kind_at k + 96 + 4 * b)) 12) ≡ a = cc in
            subst D.Declared z (given_declared k h (eqb-true _ 1 q))
        go false q = let r : None ≡ Some a = rw q at e in let z : true ≡ false = cc in absurd (true≢false z)

    pub exponents : (k : ℕ) (a : Dimensions) → ((catalog_in s).kind k).dims ≡ Some a → D.Declared a
    unfolding kind_from
    exponents k a e = go (ltb k (kind_count s)) refl
      where
        go : (t : Bool) → ltb k (kind_count s) ≡ t → D.Declared a
        go true q = let h = ltb-true k (kind_count s) q in dims_declared k a h (ap (λ (x : Kind). x.dims) (sym (in_image k h)) ∙ e)
        go false q =
            let z : None ≡ Some a = ap (λ (x : Kind). x.dims) (sym (past_image k (ltb-false k (kind_count s) q))) ∙ e in
            let y : true ≡ false = cc in
            absurd (true≢false y)
