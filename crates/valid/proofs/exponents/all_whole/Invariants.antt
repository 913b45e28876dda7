-- `valid::exponents::all_whole` meets its contract: a loop that gathers bits.
use Rattle.std.proofs.Common.{◌≡◌}
use Rattle.rules.specs.Table.{kind_place}
use Rattle.valid.specs.Shown.{ors}
use Rattle.valid.proofs.Wholly.{fourth, second, third, last}
use Rattle.valid.proofs.exponents.all_whole.Given as goal

abbrev pub invariant-loop-k : goal.invariant-loop-k
invariant-loop-k l = (l.a ≡ ors (fourth l.t 32768 kind_place) l.k) × (l.b ≡ ors (fourth l.t 4294967295 second) l.k) × (l.c ≡ ors (fourth l.t 32768 third) l.k) × (l.d ≡ ors (fourth l.t 4294967295 last) l.k)
