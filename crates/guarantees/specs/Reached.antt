-- How far a formula has come.
use Rattle.std.specs.Prelude.{ℕ, Bool, true, List, [], ◌∷◌, ltb}
use Rattle.std.specs.declared.option.Option.{Option}
use Rattle.std.specs.declared.option.Option.TheVariants.{None, Some}
use Rattle.rules.specs.Formula.{Token, Machine, on, stop, bad, Ended, answered, stopped, malformed, step}

module _ {E A : Type 0} where
  -- it has come past token p: it answers, or is refused or malformed later on
  abbrev pub past : ℕ → Ended E A → Bool
  past p (answered a) = true
  past p (stopped q x) = ltb p q
  past p (malformed q) = ltb p q

  -- the terms held after the tokens ts, where none of these is refused or malformed
  unfoldable pub reached : Machine E A → List Token → List A → Option (List A)
  reached M [] s = Some s
  reached M (t ∷ ts) s = elim (step M t s) [ on s' ↦ reached M ts s' | stop x ↦ None | bad ↦ None ]
