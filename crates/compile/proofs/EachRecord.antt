-- A loop over the rules of records, which stops at the first refusal. Assumes nothing.
use Prim.Native.Nat.{ℕ, ◌+◌, ◌<◌, ◌≤◌}
use mathlib.Core.Path.{◌≡◌, sym, ◌∙◌, ap}
use Rattle.std.specs.declared.result.Result.TheVariants.{Ok, Err}
use native.Mathlib.Omega.{arith}
use Rattle.laws.specs.Out.{given, each}
use Rattle.laws.proofs.Checks.{each_none, each_next, each_here, each_end}
use Rattle.rules.specs.Refusal.{at}
use Rattle.rules.specs.Compile.{Checked}
use Rattle.error.specs.Shown.{fine}
use Rattle.error.specs.declared.fault.Fault.{Fault}
use Rattle.compile.specs.Shown.{ruled, ruled_all}
use Rattle.guarantees.proofs.Given.{at_given}
use Rattle.compile.proofs.Told.{fine_refused, fine_given}

pub given_told : (k : ℕ) (m : Checked) {u : Unit {0}} → Ok u ≡ ruled k m → m ≡ given tt
unfolding ruled
given_told k m e = at_given k m (fine_given (at k m) e)

module _ (rule : ℕ → Checked) where
  pub all_none : each (λ j. at j (rule j)) 0 ≡ given tt
  all_none = each_none (λ j. at j (rule j))

  pub all_next : (k : ℕ) {u : Unit {0}} → each (λ j. at j (rule j)) k ≡ given tt → Ok u ≡ ruled k (rule k) → each (λ j. at j (rule j)) (k + 1) ≡ given tt
  all_next k e f = each_next (λ j. at j (rule j)) k e (rw (given_told k (rule k) f))

  -- of n records, c in code
  pub all_here : (k n : ℕ) {c : ℕ} {f : Fault} → c ≡ n → each (λ j. at j (rule j)) k ≡ given tt → k < c → Err f ≡ ruled k (rule k) → Err f ≡ ruled_all rule n
  unfolding ruled ruled_all
  all_here k n q e l p = let r = fine_refused (at k (rule k)) p in p ∙ (ap fine r.1 ∙ sym (ap fine (each_here (λ j. at j (rule j)) k n e (omega (arith, q)) r.1)))

  pub all_end : (k n : ℕ) {c : ℕ} → c ≡ n → each (λ j. at j (rule j)) k ≡ given tt → k ≤ c → c ≤ k → Ok tt ≡ ruled_all rule n
  unfolding ruled_all fine
  all_end k n q e l m = rw (each_end (λ j. at j (rule j)) k n e (omega (arith, q)) (omega (arith, q)))
