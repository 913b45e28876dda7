-- `compile::kinds::check_kinds` meets its contract. The loop's invariant: a rule that each call answers refuses no kind before k.
use Prim.Native.Nat.{ℕ, ◌<◌}
use mathlib.Core.Path.{◌≡◌}
use Rattle.laws.specs.Out.{given, each}
use Rattle.rules.specs.Refusal.{at}
use Rattle.rules.specs.Compile.{Checked}
use Rattle.compile.specs.Shown.{ruled}
use Rattle.compile.proofs.kinds.check_kinds.Given as goal

abbrev pub invariant-loop-k : goal.invariant-loop-k
invariant-loop-k g l =
    (rule : ℕ → Checked) → ((k : ℕ) (r : _) → k < l.n → goal.F-post g l.check k r → r ≡ ruled k (rule k)) → each (λ j. at j (rule j)) l.k ≡ given tt
