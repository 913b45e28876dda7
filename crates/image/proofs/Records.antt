-- A loop over records, and the block that holds them. Assumes nothing.
use Prim.Native.Nat.{ℕ, zero, suc, ◌+◌, ◌*◌, ◌<◌}
use mathlib.Core.Path.{◌≡◌, refl, subst}
use mathlib.Core.Bool.{Bool}
use mathlib.Core.Logic.{⊎_elim}
use Rattle.std.specs.declared.option.Option.TheVariants.{None, Some}
use native.Mathlib.Nat.{le_of_suc-le-suc, not-suc-le-zero, eq-or-lt_of_le}
use native.Mathlib.Numerals.{add-one}
use Rattle.laws.specs.Ranges.{first_from}
use Rattle.image.specs.Shown.{records_at}

module _ (wrong : ℕ → ℕ → Bool) (bytes p : ℕ) where
  pub records_none : records_at wrong bytes p 0 ≡ None
  unfolding records_at
  records_none = refl

  pub records_next : (j : ℕ) → records_at wrong bytes p j ≡ None → first_from (wrong (p + bytes * j)) (p + bytes * j) bytes ≡ None → records_at wrong bytes p (j + 1) ≡ None
  unfolding records_at
  records_next j e f = rw (add-one, records_at, e, f)

  pub records_here : (j n : ℕ) {i : ℕ} → records_at wrong bytes p j ≡ None → j < n → first_from (wrong (p + bytes * j)) (p + bytes * j) bytes ≡ Some i → records_at wrong bytes p n ≡ Some i
  unfolding records_at
  records_here j zero e l f = absurd (not-suc-le-zero l)
  records_here j (suc n) {i} e l f =
      ⊎_elim
      (λ q. subst (λ (m : ℕ). records_at wrong bytes p (suc m) ≡ Some i) q (rw (records_at, e, f)))
      (λ h. rw (records_at, records_here j n e h f))
      (eq-or-lt_of_le (le_of_suc-le-suc l))
