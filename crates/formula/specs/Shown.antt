-- What the code's terms and answers show of the rules.
use Rattle.std.specs.Prelude.{ℕ, zero, suc, ◌-◌, ◌<◌, ◌≡◌, cond, List, [], ◌∷◌, ltb, get_or}
use Rattle.std.specs.declared.result.Result.{Result}
use Rattle.std.specs.declared.result.Result.TheVariants.{Ok, Err}
use Rattle.laws.specs.Out.{given}
use Rattle.rules.specs.Kinds.{Kinds, Rows}
use Rattle.rules.specs.Refusal as why
use Rattle.rules.specs.Formula as rule
use Rattle.error.specs.Shown.{replied, shown, error_of, op_of}
use Rattle.error.specs.declared.cause.Error.{Error}
use Rattle.error.specs.declared.cause.Error.TheVariants as cause
use Rattle.error.specs.declared.fault.Fault.{Fault}
use Rattle.tokens.specs.declared.token.Token.{Token}
use Rattle.tokens.specs.declared.token.Token.TheVariants as token
use Rattle.tokens.specs.declared.token.Unary.{Unary}
use Rattle.tokens.specs.declared.token.Unary.TheVariants.{Exact, Inexact, Absolute}
use Rattle.tokens.specs.declared.token.Binary.{Binary}
use Rattle.tokens.specs.declared.token.Binary.TheVariants.{Combine, Compare}
use Rattle.formula.specs.declared.terms.Term.{Term}
use Rattle.formula.specs.declared.terms.Term.TheVariants.{Number, Kind}
use Rattle.formula.specs.declared.stack.Put.{Put}

-- ---- answers
abbrev pub term_as : rule.Term → Term
term_as rule.Number = Number
term_as (rule.Kind k) = Kind k

-- a formula's answer: the term that remains, or the refusal at its token
unfoldable pub termed : why.Placed rule.Term → Result Term Fault
termed m = shown term_as m

-- what a token makes, by itself
unfoldable pub made : why.Answer rule.Term → Result Term Error
made m = replied term_as m

-- ---- terms, and what takes them
abbrev pub term_of : Term → rule.Term
term_of Number = rule.Number
term_of (Kind k) = rule.Kind k

abbrev pub unary_of : Unary → rule.Unary
unary_of (Exact e) = rule.exact e
unary_of Inexact = rule.inexact
unary_of Absolute = rule.absolute

abbrev pub binary_of : Binary → rule.Binary
binary_of (Combine op) = rule.combined (op_of op)
binary_of Compare = rule.compared

-- ---- the stack
-- the d terms at the front of the array, the last of them first
unfoldable pub stack_of : List Term → ℕ → List rule.Term
stack_of a zero = []
stack_of a (suc d) = term_of (get_or a d Number) ∷ stack_of a d

-- a term that is made is put over the first `at` terms
abbrev pub landed_of : ℕ → Result Term Error → Result Put Error
landed_of at (Ok x) = Ok (record { at = at; term = x })
landed_of at (Err e) = Err e

unfoldable pub pushed_of : ℕ → ℕ → Result Term Error → Result Put Error
pushed_of d p m = cond (ltb d 32) (landed_of d m) (Err (cause.Malformed p))

-- one term taken, and two
unfoldable pub one_of : ℕ → ℕ → Result Term Error → Result Put Error
one_of d p m = cond (ltb 0 d) (landed_of (d - 1) m) (Err (cause.Malformed p))

unfoldable pub two_of : ℕ → ℕ → Result Term Error → Result Put Error
two_of d p m = cond (ltb 1 d) (landed_of (d - 2) m) (Err (cause.Malformed p))

-- what a token does at a depth and place to the two terms on top: `steps` says that it is the rules' step
unfoldable pub next_by : Kinds → Rows → Token → ℕ → ℕ → Term → Term → Result Put Error
next_by K R token.Number d p x y = pushed_of d p (made (given rule.Number))
next_by K R (token.Kind k) d p x y = pushed_of d p (made (rule.kind_term K k))
next_by K R (token.Unary u) d p x y = one_of d p (made (rule.unary_term K (unary_of u) (term_of y)))
next_by K R (token.Binary b) d p x y = two_of d p (made (rule.binary_term K R (binary_of b) (term_of x) (term_of y)))
next_by K R token.Unreadable d p x y = Err (cause.Malformed p)

-- a step as the code tells it: the terms then held, or the refusal
abbrev pub shown_step : ℕ → rule.Step why.Refusal rule.Term → Result (List rule.Term) Error
shown_step p (rule.on s) = Ok s
shown_step p (rule.stop x) = Err (error_of x)
shown_step p rule.bad = Err (cause.Malformed p)

abbrev pub held_by : List Term → Result Put Error → Result (List rule.Term) Error
held_by a (Ok put) = Ok (term_of put.term ∷ stack_of a put.at)
held_by a (Err e) = Err e

abbrev pub roomy : Result Put Error → Type 0
roomy (Ok put) = put.at < 32
roomy (Err e) = Unit {0}

-- over the array a, at the place p, the code's step r is the rules' S
pub record Stepped (a : List Term) (p : ℕ) (S : rule.Step why.Refusal rule.Term) (r : Result Put Error) : Type 0 where
  pub went : held_by a r ≡ shown_step p S
  pub room : roomy r

-- the rules' step by the code's token; `step_coded` says that it is the rules' own
unfoldable pub step_by : Kinds → Rows → Token → List rule.Term → rule.Step why.Refusal rule.Term
step_by K R token.Number s = rule.with_none (given rule.Number) s
step_by K R (token.Kind k) s = rule.with_none (rule.kind_term K k) s
step_by K R (token.Unary u) s = rule.with_one (rule.unary_term K (unary_of u)) s
step_by K R (token.Binary b) s = rule.with_two (rule.binary_term K R (binary_of b)) s
step_by K R token.Unreadable s = rule.bad
