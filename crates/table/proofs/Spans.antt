-- A range from p on in which nothing is found: it grows, each number in it fails, and what fails one test throughout fails another. And what is known
-- of a number that is found. Assumes nothing.
use Prim.Native.Nat.{ℕ, zero, suc, ◌+◌, ◌-◌, ◌<◌, ◌≤◌}
use mathlib.Core.Path.{◌≡◌, refl, sym, ◌∙◌}
use mathlib.Core.Bool.{Bool, true, false, true≢false}
use mathlib.Core.Logic.{⊎_elim}
use Rattle.std.specs.declared.option.Option.{Option}
use Rattle.std.specs.declared.option.Option.TheVariants.{None, Some}
use native.Mathlib.Nat.{eq-or-lt_of_le}
use native.Mathlib.Omega.{arith}
use Rattle.laws.specs.Options.{or_else}
use Rattle.laws.specs.Ranges.{first_from}
use Rattle.laws.proofs.FirstFrom.{from_none, from_next, from_here, from_split}

-- ---- from p to i nothing is found
module _ (test : ℕ → Bool) (p : ℕ) where
  pub span_none : first_from test p (p - p) ≡ None
  span_none = let z : p - p ≡ 0 = omega arith in rw z (from_none test p)

  pub span_next : (i : ℕ) {b : Bool} → p ≤ i → first_from test p (i - p) ≡ None → b ≡ test i → b ≡ false → first_from test p (i + 1 - p) ≡ None
  span_next i {b} h e q f =
      let z : i + 1 - p ≡ i - p + 1 = omega arith in
      let y : p + (i - p) ≡ i = omega arith in
      let w : b ≡ test (p + (i - p)) = rw y q in
      rw z (from_next test p (i - p) e w f)

  pub span_here : (i n : ℕ) {b : Bool} → p ≤ i → i < n → first_from test p (i - p) ≡ None → b ≡ test i → b ≡ true → Some i ≡ first_from test p (n - p)
  span_here i n {b} h l e q f =
      let y : p + (i - p) ≡ i = omega arith in
      let w : b ≡ test (p + (i - p)) = rw y q in
      let r : first_from test p (n - p) ≡ Some (p + (i - p)) = from_here test p (i - p) (n - p) e (omega arith) w f in
      sym (rw y at r)

  -- ---- each of the d numbers from p on fails
  pub span_misses : (d k : ℕ) → first_from test p d ≡ None → p ≤ k → k < p + d → test k ≡ false
  unfolding first_from
  span_misses zero k e l m = absurd (omega arith)
  span_misses (suc d) k e l m = go (span_misses d k) (first_from test p d) refl (test (p + d)) refl
    where
      go : (first_from test p d ≡ None → p ≤ k → k < p + d → test k ≡ false) → (x : Option ℕ) → first_from test p d ≡ x → (b : Bool) → test (p + d) ≡ b → test k ≡ false
      go ih (Some j) q b s = let z : Some j ≡ None = rw (first_from, q) at e in cc
      go ih None q true s = let z : Some (p + d) ≡ None = rw (first_from, q, s) at e in cc
      go ih None q false s = ⊎_elim (λ z. rw z s) (λ h. ih q l h) (eq-or-lt_of_le (omega arith))

  -- ---- fewer of them
  pub span_less : (d m : ℕ) → m ≤ d → first_from test p d ≡ None → first_from test p m ≡ None
  span_less d m h e =
      let z : m + (d - m) ≡ d = omega arith in
      let f : first_from test p (m + (d - m)) ≡ None = rw z e in
      first_none (first_from test p m) _ (rw (from_split test p m (d - m)) at f)
    where
      first_none : (a b : Option ℕ) → or_else a b ≡ None → a ≡ None
      first_none (Some j) b q = cc
      first_none None b q = refl

  -- ---- j is found among the d numbers from p on: it is one of them, it passes, and those before it don't
  pub span_found : (d : ℕ) {j : ℕ} → first_from test p d ≡ Some j → (p ≤ j) × (j < p + d) × (test j ≡ true) × (first_from test p (j - p) ≡ None)
  unfolding first_from
  span_found zero e = let z : true ≡ false = cc in absurd (true≢false z)
  span_found (suc d) {j} e = go (span_found d) (first_from test p d) refl (test (p + d)) refl
    where
      go : (first_from test p d ≡ Some j → (p ≤ j) × (j < p + d) × (test j ≡ true) × (first_from test p (j - p) ≡ None)) → (x : Option ℕ) → first_from test p d ≡ x → (b : Bool) → test (p + d) ≡ b → (p ≤ j) × (j < p + suc d) × (test j ≡ true) × (first_from test p (j - p) ≡ None)
      go ih (Some k) q b s =
          let z : Some k ≡ Some j = rw (first_from, q) at e in
          let r = ih (q ∙ z) in
          (r.0, omega (arith, r.1), r.2, r.3)
      go ih None q true s =
          let z : Some (p + d) ≡ Some j = rw (first_from, q, s) at e in
          let y : p + d ≡ j = cc in
          let x : j - p ≡ d = omega arith in
          (omega arith, omega arith, rw (← y) s, rw x q)
      go ih None q false s =
          let z : None ≡ Some j = rw (first_from, q, s) at e in
          let y : true ≡ false = cc in
          absurd (true≢false y)

  pub span_in : (n : ℕ) {u : Option ℕ} {j : ℕ} → u ≡ first_from test p (n - p) → u ≡ Some j → (p ≤ j) × (j < n)
  span_in n e q = let r = span_found (n - p) (sym e ∙ q) in (r.0, omega (arith, r.0, r.1))

-- ---- a scan from p on
pub ruleset searches = (span_none, span_next, span_here, span_less)

-- ---- what fails the one test fails the other
module _ (test other : ℕ → Bool) (h : (k : ℕ) → test k ≡ false → other k ≡ false) where
  pub fails_both : (i d : ℕ) → first_from test i d ≡ None → first_from other i d ≡ None
  unfolding first_from
  fails_both i zero e = refl
  fails_both i (suc d) e = go (fails_both i d) (first_from test i d) refl (test (i + d)) refl
    where
      go : (first_from test i d ≡ None → first_from other i d ≡ None) → (x : Option ℕ) → first_from test i d ≡ x → (b : Bool) → test (i + d) ≡ b → first_from other i (suc d) ≡ None
      go ih (Some j) p b q = let z : Some j ≡ None = rw (first_from, p) at e in cc
      go ih None p true q = let z : Some (i + d) ≡ None = rw (first_from, p, q) at e in cc
      go ih None p false q = rw (first_from, ih p, h (i + d) q)
