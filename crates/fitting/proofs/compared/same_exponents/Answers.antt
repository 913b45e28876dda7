-- `fitting::compared::same_exponents` meets its contract: all words at once, or pair by pair.
use mathlib.Core.Path.{◌∙◌}
use native.Mathlib.Omega.{arith}
use Rattle.fitting.proofs.Worded.{words_same}
use Rattle.fitting.proofs.compared.same_exponents.Goals as goal

pub returns-then-p-t : goal.returns-then-p-t
returns-then-p-t c =
    rw c.from.ensures at (c.same_words.ensures ∙ words_same _ _ _ (λ i. omega (arith, c.type_inv.t i)) (λ i. omega (arith, c.type_inv.w i)))
