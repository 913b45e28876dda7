-- The search for the only kind that fits. A kind with a word that differs does not; and what a first search found, i, and a second one behind it, j,
-- tell of the kinds that fit. Assumes nothing.
use Prim.Native.Nat.{ℕ, ◌+◌, ◌-◌, ◌<◌, ◌≤◌}
use mathlib.Core.Path.{◌≡◌, refl, sym, ◌∙◌}
use mathlib.Core.Bool.{Bool, true, false, ◌&&◌}
use mathlib.Core.List.{List}
use Rattle.std.specs.declared.option.Option.TheVariants.{None, Some}
use Rattle.std.specs.declared.option.Option.{Option}
use native.Mathlib.Omega.{arith}
use borrow.Author.Tests.{ltb-true, ltb-false}
use lib.Dec.{eqb, ltb}
use Rattle.laws.specs.Ranges.{first_from}
use Rattle.laws.proofs.Cases.{not_then}
use Rattle.rules.specs.Kinds.{Kinds, Graded, fits, candidates}
use Rattle.rules.specs.Table.{word, kinds_of, kind_place, dims_from}
use Rattle.table.proofs.Spans.{span_misses, span_found}
use Rattle.fitting.specs.Shown.{at, same_word, fit_of}
use Rattle.fitting.specs.declared.sought.Fit.TheVariants.{Only, Second, Nothing}
use Rattle.fitting.proofs.Few.{picked_none, picked_one, picked_two}
use Rattle.fitting.proofs.Worded.{word_differs}

-- ---- kinds with a word that differs
module _ (t w : List ℕ) (g a : ℕ) (s : (j : ℕ) → word t j < 4294967296) (r : (j : ℕ) → word w j < 4294967296) (h : a < 20) where
  differs : (k i : ℕ) → i < 24 → same_word t (kind_place k) w i ≡ false → false ≡ fits (kinds_of t) (at (dims_from w 0) g) k
  differs k i l e = word_differs t w g k i s r l refl (not_then e)

  -- b is the code's test of kind k
  pub apart : (k : ℕ) {b : Bool}
      → b ≡ (eqb (word t (kind_place k + a)) (word w a) && eqb (word t (kind_place k + a + 2)) (word w (a + 2)) && eqb (word t (kind_place k + a + 4)) (word w (a + 4)))
      → b ≡ false → false ≡ fits (kinds_of t) (at (dims_from w 0) g) k
  unfolding same_word
  apart k e f = go (eqb (word t (kind_place k + a)) (word w a)) refl (eqb (word t (kind_place k + a + 2)) (word w (a + 2))) refl
    where
      go : (b : Bool) → eqb (word t (kind_place k + a)) (word w a) ≡ b → (c : Bool) → eqb (word t (kind_place k + a + 2)) (word w (a + 2)) ≡ c → false ≡ fits (kinds_of t) (at (dims_from w 0) g) k
      go true p true q = let z : kind_place k + (a + 4) ≡ kind_place k + a + 4 = omega arith in differs k (a + 4) (omega arith) (rw z (rw (p, q) at (sym e ∙ f)))
      go true p false q = let z : kind_place k + (a + 2) ≡ kind_place k + a + 2 = omega arith in differs k (a + 2) (omega arith) (rw z q)
      go false p c q = differs k a (omega arith) p

-- ---- what is found, n the count: u is the first, and v the first behind it
module _ (K : Kinds) (x : Graded) {n : ℕ} (c : n ≡ K.count) {u : Option ℕ} (e : u ≡ first_from (fits K x) 0 (n - 0)) where
  pub found_none : u ≡ None → Nothing ≡ fit_of (candidates K x)
  found_none p =
      let z : first_from (fits K x) 0 (n - 0) ≡ None = sym e ∙ p in
      rw (picked_none (fits K x) K.count (λ k l. span_misses (fits K x) 0 (n - 0) k z (omega arith) (omega (arith, c))))

  module _ {i : ℕ} (p : u ≡ Some i) {v : Option ℕ} (f : v ≡ first_from (fits K x) (i + 1) (n - (i + 1))) where
    one : (0 ≤ i) × (i < 0 + (n - 0)) × (fits K x i ≡ true) × (first_from (fits K x) 0 (i - 0) ≡ None)
    one = span_found (fits K x) 0 (n - 0) (sym e ∙ p)

    other : (j : ℕ) → first_from (fits K x) (i + 1) (j - (i + 1)) ≡ None → (k : ℕ) → k < j → (k ≡ i → ⊥) → fits K x k ≡ false
    other j g k o d = go (ltb k i) refl
      where
        go : (b : Bool) → ltb k i ≡ b → fits K x k ≡ false
        go true q = let b = ltb-true k i q in span_misses (fits K x) 0 (i - 0) k one.3 (omega arith) (omega arith)
        go false q = let b = ltb-false k i q in span_misses (fits K x) (i + 1) (j - (i + 1)) k g (omega (arith, d)) (omega arith)

    pub found_second : {j : ℕ} → v ≡ Some j → Second j ≡ fit_of (candidates K x)
    found_second {j} q =
        let two = span_found (fits K x) (i + 1) (n - (i + 1)) (sym f ∙ q) in
        rw (picked_two (fits K x) i j K.count (omega (arith, two.0)) (omega (arith, c, two.0, two.1)) one.2 two.2 (other j two.3)).1

    pub found_only : v ≡ None → Only i ≡ fit_of (candidates K x)
    found_only q = rw (picked_one (fits K x) i K.count (omega (arith, c, one.1)) one.2 (λ k o d. other n (sym f ∙ q) k (omega (arith, c)) d))
