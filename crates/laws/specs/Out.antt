-- What a rule gives, or why it is refused. Rules that follow one another are written with `do`, or joined by `>>`: the order of the lines, or
-- along `>>`, is the order of the refusals, and the first that refuses is the answer.
use Rattle.std.specs.Prelude.{ℕ, zero, suc, Bool, true, false}
use Rattle.std.specs.declared.option.Option.{Option}
use Rattle.std.specs.declared.option.Option.TheVariants.{None, Some}

pub data Out (E A : Type 0) : Type 0 where
  given : A → Out E A
  refused : E → Out E A

infixl 10 ◌>>=◌
infixl 10 ◌>>◌
module _ {E A B : Type 0} where
  -- a line `a ← m`: what m gives is a in what follows
  abbrev pub ◌>>=◌ : Out E A → (A → Out E B) → Out E B
  ◌>>=◌ (given a) f = f a
  ◌>>=◌ (refused x) f = refused x

  -- a line `m`: what it gives is not needed
  abbrev pub ◌>>◌ : Out E A → Out E B → Out E B
  ◌>>◌ (given a) m = m
  ◌>>◌ (refused x) m = refused x

  abbrev pub mapped : (A → B) → Out E A → Out E B
  mapped f (given a) = given (f a)
  mapped f (refused x) = refused x

module _ {E : Type 0} where
  -- refused for x where the test holds
  abbrev pub refuse_if : Bool → E → Out E (Unit {0})
  refuse_if true x = refused x
  refuse_if false x = given tt

  -- refused for what is there, x of it
  abbrev pub refuse_found : {A : Type 0} → Option A → (A → E) → Out E (Unit {0})
  refuse_found None x = given tt
  refuse_found (Some a) x = refused (x a)

  -- what is there; refused for x where there is nothing
  abbrev pub needed : {A : Type 0} → Option A → E → Out E A
  needed None x = refused x
  needed (Some a) x = given a

  -- what is there already, or else what the next rule gives
  abbrev pub known : {A : Type 0} → Option A → Out E A → Out E A
  known None m = m
  known (Some a) m = given a

  -- a rule for each number below n, in order
  unfoldable pub each : (ℕ → Out E (Unit {0})) → ℕ → Out E (Unit {0})
  each rule zero = given tt
  each rule (suc n) = each rule n >> rule n
