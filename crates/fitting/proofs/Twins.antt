-- What a search tells that ended at the second kind that fits: of the kinds ks that fit, and of how many there are. Assumes nothing.
use Prim.Native.Nat.{ℕ, zero, suc, ◌+◌, ◌-◌, ◌<◌, ◌≤◌}
use mathlib.Core.Path.{◌≡◌, refl, sym, ◌∙◌, ap}
use mathlib.Core.Bool.{Bool, true, false, ◌&&◌, and-false, true≢false}
use mathlib.Core.List.{List, [], ◌∷◌}
use Rattle.std.specs.declared.option.Option.{Option}
use Rattle.std.specs.declared.option.Option.TheVariants.{None, Some}
use native.Mathlib.Omega.{arith}
use borrow.Author.Tests.{lt-ltb, le-ltb, ltb-true, ltb-false}
use lib.Dec.{ltb}
use lib.ListN.{length, length-append}
use Rattle.laws.specs.Ranges.{first_from, picked}
use Rattle.laws.proofs.Picked.{picked_yes}
use Rattle.rules.specs.Kinds.{Kinds, Graded, fits, candidates}
use Rattle.rules.specs.Arithmetic as rule
use Rattle.table.proofs.Spans.{span_misses, span_found}
use Rattle.fitting.specs.Shown.{fit_of, fits_past, twins_from}
use Rattle.fitting.specs.declared.sought.Fit.{Fit}
use Rattle.fitting.specs.declared.sought.Fit.TheVariants.{Only, Second, Nothing}
use Rattle.fitting.proofs.Few.{picked_none, picked_skip}

-- ---- which they are: v is what was found
pub only_fits : {v : Fit} {k : ℕ} (ks : List ℕ) → v ≡ Only k → v ≡ fit_of ks → ks ≡ k ∷ []
only_fits [] p e = cc
only_fits (j ∷ []) p e = cc
only_fits (j ∷ m ∷ ks) p e = cc

pub nothing_fits : {v : Fit} (ks : List ℕ) → v ≡ Nothing → v ≡ fit_of ks → ks ≡ []
nothing_fits [] p e = refl
nothing_fits (j ∷ []) p e = cc
nothing_fits (j ∷ m ∷ ks) p e = cc

pub second_fits : {v : Fit} {m : ℕ} (ks : List ℕ) → v ≡ Second m → v ≡ fit_of ks → 2 ≤ length ks
second_fits [] p e = let z : true ≡ false = cc in absurd (true≢false z)
second_fits (j ∷ []) p e = let z : true ≡ false = cc in absurd (true≢false z)
second_fits (j ∷ k ∷ ks) p e = omega arith

-- ---- several are settled as several
pub settle_several : {A : Type 0} (ks : List ℕ) (nothing : A) (one : ℕ → A) (several : List ℕ → A) → 2 ≤ length ks → rule.settle ks nothing one several ≡ several ks
settle_several [] nothing one several h = absurd (omega arith)
settle_several (k ∷ []) nothing one several h = absurd (omega arith)
settle_several (k ∷ m ∷ ks) nothing one several h = refl

-- ---- two, and those past the second
module _ (test : ℕ → Bool) (m : ℕ) where
  abbrev after : ℕ → Bool
  after j = ltb m j && test j

  counted : (n : ℕ) → fit_of (picked test n) ≡ Second m → (m < n) × (length (picked test n) ≡ 2 + length (picked after n))
  unfolding picked
  counted zero e = let z : true ≡ false = cc in absurd (true≢false z)
  counted (suc n) e = go (counted n) (test n) refl (picked test n) refl
    where
      go : (fit_of (picked test n) ≡ Second m → (m < n) × (length (picked test n) ≡ 2 + length (picked after n))) → (b : Bool) → test n ≡ b → (ks : List ℕ) → picked test n ≡ ks → (m < suc n) × (length (picked test (suc n)) ≡ 2 + length (picked after (suc n)))
      go ih false f ks q =
          let h : fit_of (picked test n) ≡ Second m = rw (picked, f) at e in
          let r = ih h in
          (omega (arith, r.0), rw (picked, f, lt-ltb m n r.0) r.1)
      go ih true f [] q = let z : fit_of (n ∷ []) ≡ Second m = rw (picked, f, q) at e in let y : true ≡ false = cc in absurd (true≢false y)
      go ih true f (k ∷ []) q =
          let z : Second n ≡ Second m = rw (picked, f, q) at e in
          let y : n ≡ m = cc in
          (omega (arith, y), rw (picked, f, q, le-ltb m n (omega (arith, y)), picked_none after n (λ j l. rw (le-ltb m j (omega (arith, y))))))
      go ih true f (k ∷ j ∷ ks) q =
          let z : Second j ≡ Second m = rw (picked, f, q) at e in
          let r = ih (rw q z) in
          (omega (arith, r.0), rw (picked, f, lt-ltb m n r.0, length-append, length-append) (omega (arith, r.1)))

pub twins_counted : (K : Kinds) (x : Graded) {v : Fit} {m : ℕ} → v ≡ Second m → v ≡ fit_of (candidates K x) → twins_from K x m ≡ length (candidates K x)
unfolding twins_from fits_past
twins_counted K x {v} {m} p e = sym (counted (fits K x) m K.count (sym e ∙ p)).1

-- ---- the loop: c are counted up to kind i, and u is the first that fits from there on; n is the count
module _ (K : Kinds) (x : Graded) (k : ℕ) where
  none_past : (n : ℕ) → n ≤ k + 1 → length (picked (fits_past K x k) n) ≡ 0
  unfolding fits_past
  none_past n h = rw (picked_none (λ j. ltb k j && fits K x j) n (λ j l. rw (le-ltb k j (omega arith))))

  skipped : (a j : ℕ) → a ≤ j → first_from (fits K x) a (j - a) ≡ None → length (picked (fits_past K x k) j) ≡ length (picked (fits_past K x k) a)
  unfolding fits_past
  skipped a j l f = ap length (picked_skip (λ m. ltb k m && fits K x m) a j l (λ m u v. rw (span_misses (fits K x) a (j - a) m f u (omega arith), and-false (ltb k m))))

  pub past_first : 2 ≡ 2 + length (picked (fits_past K x k) (k + 1))
  past_first = omega (arith, none_past (k + 1) (omega arith))

  one_past : (i : ℕ) → k < i → fits K x i ≡ true → length (picked (fits_past K x k) (i + 1)) ≡ length (picked (fits_past K x k) i) + 1
  unfolding fits_past
  one_past i h e = rw (picked_yes (λ m. ltb k m && fits K x m) i {b = true} (rw (lt-ltb k i h, e)) refl) (length-append (picked (λ m. ltb k m && fits K x m) i) (i ∷ []))

  pub past_next : (i n c : ℕ) {u : Option ℕ} {j v : ℕ} → c ≡ 2 + length (picked (fits_past K x k) i) → k < i → u ≡ first_from (fits K x) i (n - i) → u ≡ Some j → v ≡ c + 1 → v ≡ 2 + length (picked (fits_past K x k) (j + 1))
  past_next i n c {u} {j} p h e q w =
      let r = span_found (fits K x) i (n - i) (sym e ∙ q) in
      omega (arith, w, p, skipped i j r.0 r.3, one_past j (omega (arith, r.0)) r.2)

  pub past_end : (i c : ℕ) {n : ℕ} {u : Option ℕ} → n ≡ K.count → c ≡ 2 + length (picked (fits_past K x k) i) → (n < i → i ≤ k + 1) → u ≡ first_from (fits K x) i (n - i) → u ≡ None → c ≡ twins_from K x k
  unfolding twins_from
  past_end i c {n} {u} e p m f q = go (ltb n i) refl
    where
      go : (b : Bool) → ltb n i ≡ b → c ≡ 2 + length (picked (fits_past K x k) K.count)
      go true t =
          let h = ltb-true n i t in
          let l = m h in
          omega (arith, p, none_past i l, none_past K.count (omega (arith, e)))
      go false t = let h = ltb-false n i t in omega (arith, p, skipped i n h (sym f ∙ q), ap (λ (j : ℕ). length (picked (fits_past K x k) j)) e)
