-- "each refusal number arises for its cause and for no other", of the number that code says. Assumes nothing.
use mathlib.Core.Path.{◌≡◌, sym, ◌∙◌, ap}
use Rattle.rules.specs.Refusal.{Refusal, told}
use Rattle.error.specs.Shown.{error_of, said_of}
use Rattle.error.specs.declared.said.Said.{Said}
use Rattle.error.proofs.Told.{said_told}
use Rattle.guarantees.specs.Causes.{cause_by}
use Rattle.guarantees.proofs.Causes.{number_tells, one_cause}
use Rattle.comparison.specs.Said.{SaidTells, SaidOneCause}

pub same_number : (x : Refusal) → (said_of (error_of x)).number ≡ (told x).number
same_number x = ap (λ (s : Said). s.number) (said_told x)

pub said_tells : SaidTells
said_tells x = ap cause_by (same_number x) ∙ number_tells x

pub said_one_cause : SaidOneCause
said_one_cause x y e = one_cause x y (sym (same_number x) ∙ e ∙ same_number y)
