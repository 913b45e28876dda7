-- `fitting::compared::same_words` meets its contract: a loop that gathers.
use mathlib.Core.Path.{◌≡◌}
use Rattle.laws.specs.Ranges.{all}
use Rattle.fitting.specs.Shown.{same_word}
use Rattle.fitting.proofs.compared.same_words.Given as goal

abbrev pub invariant-loop-i : goal.invariant-loop-i
invariant-loop-i l = l.same ≡ all (same_word l.t l.p l.w) l.i
