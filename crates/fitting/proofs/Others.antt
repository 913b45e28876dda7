-- Of the kinds that fit, one is known: it is the only one, or there are several. Assumes nothing.
use Prim.Native.Nat.{ℕ, ◌<◌, ◌≤◌}
use mathlib.Core.Path.{◌≡◌, refl, sym, ◌∙◌}
use mathlib.Core.Bool.{Bool, true, false, not, ◌&&◌, and-false, true≢false}
use mathlib.Core.List.{List, [], ◌∷◌}
use Rattle.std.specs.declared.option.Option.{Option}
use Rattle.std.specs.declared.option.Option.TheVariants.{None, Some}
use native.Mathlib.Omega.{arith}
use borrow.Author.Tests.{eqb-false, ne_eqb, ltb-true, ltb-false, not-true, not-false}
use lib.Dec.{eqb, ltb}
use lib.ListN.{length}
use Rattle.laws.specs.Options.{is_some}
use Rattle.laws.specs.Ranges.{first, below}
use Rattle.laws.proofs.Cases.{cond_then, cond_else, and_left, and_right}
use Rattle.laws.proofs.First.{first_below, first_passes, first_misses}
use Rattle.rules.specs.Kinds.{Kinds, Graded, carries, fits, candidates}
use Rattle.rules.specs.Table.{kinds_of, kinds_in}
use Rattle.fitting.specs.Shown.{fits_beside, beside_of}
use Rattle.fitting.specs.declared.beside.Beside.{Beside}
use Rattle.fitting.specs.declared.beside.Beside.TheVariants.{Alone, Others, Unfit}
use Rattle.fitting.proofs.Few.{picked_one, with_two_law}

-- ---- a kind that fits is one of the table
fits_in_law : (t : List ℕ) (x : Graded) (k : ℕ) → fits (kinds_of t) x k ≡ true → k < (kinds_of t).count
unfolding fits carries kinds_of below
fits_in_law t x k e = go (ltb k (kinds_in t)) refl
  where
    go : (b : Bool) → ltb k (kinds_in t) ≡ b → k < (kinds_of t).count
    go true q = ltb-true k (kinds_in t) q
    go false q =
        let z : fits (kinds_of t) x k ≡ false = rw q (and-false (eqb 0 x.grade)) in
        absurd (true≢false (sym e ∙ z))

-- ---- from k, which fits
module _ (t : List ℕ) (x : Graded) (k : ℕ) (e : fits (kinds_of t) x k ≡ true) where
  abbrev K : Kinds
  K = kinds_of t

  alone : first (fits_beside K x k) K.count ≡ None → candidates K x ≡ k ∷ []
  unfolding fits_beside
  alone n = picked_one (fits K x) k K.count (fits_in_law t x k e) e other
    where
      other : (j : ℕ) → j < K.count → (j ≡ k → ⊥) → fits K x j ≡ false
      other j h d = let m : (not (eqb j k) && fits K x j) ≡ false = first_misses (fits_beside K x k) K.count j n h in rw (ne_eqb j k d) at m

  several_kinds : {j : ℕ} → first (fits_beside K x k) K.count ≡ Some j → 2 ≤ length (candidates K x)
  unfolding fits_beside
  several_kinds {j} f = go (first_passes (fits_beside K x k) K.count f)
    where
      go : (not (eqb j k) && fits K x j) ≡ true → 2 ≤ length (candidates K x)
      go p = order (ltb j k) refl
        where
          there : fits K x j ≡ true
          there = and_right (not (eqb j k)) (fits K x j) p

          apart : j ≡ k → ⊥
          apart = eqb-false j k (not-true (eqb j k) (and_left (not (eqb j k)) (fits K x j) p))

          order : (b : Bool) → ltb j k ≡ b → 2 ≤ length (candidates K x)
          order true q = with_two_law (fits K x) j k K.count (ltb-true j k q) (fits_in_law t x k e) there e
          order false q =
              let h = ltb-false j k q in
              with_two_law (fits K x) k j K.count (omega (arith, apart)) (first_below (fits_beside K x k) K.count f) e there

-- ---- what was seen from k: v
module _ (t : List ℕ) (x : Graded) (k : ℕ) {v : Beside} (q : v ≡ beside_of (kinds_of t) x k) where
  pub alone_told : v ≡ Alone → candidates (kinds_of t) x ≡ k ∷ []
  unfolding beside_of
  alone_told p = go (fits (kinds_of t) x k) refl (first (fits_beside (kinds_of t) x k) (kinds_of t).count) refl
    where
      go : (b : Bool) → fits (kinds_of t) x k ≡ b → (o : Option ℕ) → first (fits_beside (kinds_of t) x k) (kinds_of t).count ≡ o → candidates (kinds_of t) x ≡ k ∷ []
      go true e None f = alone t x k e f
      go true e (Some j) f = let z : Alone ≡ Others = sym p ∙ q ∙ rw (e, f) in cc
      go false e o f = let z : Alone ≡ Unfit = sym p ∙ q ∙ rw e in cc

  pub others_told : v ≡ Others → 2 ≤ length (candidates (kinds_of t) x)
  unfolding beside_of
  others_told p = go (fits (kinds_of t) x k) refl (first (fits_beside (kinds_of t) x k) (kinds_of t).count) refl
    where
      go : (b : Bool) → fits (kinds_of t) x k ≡ b → (o : Option ℕ) → first (fits_beside (kinds_of t) x k) (kinds_of t).count ≡ o → 2 ≤ length (candidates (kinds_of t) x)
      go true e (Some j) f = several_kinds t x k e f
      go true e None f =
          let y : Others ≡ Alone = sym p ∙ q ∙ rw (e, f) in
          let z : true ≡ false = cc in
          absurd (true≢false z)
      go false e o f =
          let y : Others ≡ Unfit = sym p ∙ q ∙ rw e in
          let z : true ≡ false = cc in
          absurd (true≢false z)

-- ---- in code: b whether k fits, u whether another does
module _ (K : Kinds) (x : Graded) (k : ℕ) {b : Bool} (e : b ≡ fits K x k) where
  pub beside_unfit : not b ≡ true → Unfit ≡ beside_of K x k
  unfolding beside_of
  beside_unfit p = rw (sym e ∙ not-true b p)

  module _ (p : not b ≡ false) {u : Bool} (f : u ≡ is_some (first (fits_beside K x k) K.count)) where
    pub beside_others : u ≡ true → Others ≡ beside_of K x k
    unfolding beside_of
    beside_others r = cond_then Unfit (sym e ∙ not-false b p) (cond_then Alone (sym f ∙ r) refl)

    pub beside_alone : u ≡ false → Alone ≡ beside_of K x k
    unfolding beside_of
    beside_alone r = cond_then Unfit (sym e ∙ not-false b p) (cond_else Others (sym f ∙ r) refl)
