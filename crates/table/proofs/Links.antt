-- A kind's index in code, or none: what it tells of the rules' option, and how code by branches meets it (`links`). Assumes nothing.
use Prim.Native.Nat.{ℕ}
use mathlib.Core.Path.{◌≡◌, sym, ◌∙◌}
use mathlib.Core.Bool.{Bool, true, false, cond}
use Rattle.std.specs.declared.option.Option.{Option}
use Rattle.std.specs.declared.option.Option.TheVariants.{None, Some}
use Rattle.laws.specs.Options.{found, or_else}

-- ---- told: v is what a call returned
pub to_some : {v : Option ℕ} {k : ℕ} (o : Option ℕ) → v ≡ Some k → v ≡ o → o ≡ Some k
to_some o p e = sym e ∙ p

pub nowhere_none : {v : Option ℕ} (o : Option ℕ) → v ≡ None → v ≡ o → o ≡ None
nowhere_none o p e = sym e ∙ p

-- ---- shown
pub some_to : {o : Option ℕ} {k : ℕ} → o ≡ Some k → Some k ≡ o
some_to e = sym e

pub none_nowhere : {o : Option ℕ} → o ≡ None → None ≡ o
none_nowhere e = sym e

-- ---- a test decides
pub linked_then : {b : Bool} {v : Option ℕ} (x y : Option ℕ) → b ≡ true → v ≡ x → v ≡ cond b x y
linked_then x y p e = rw p e

pub linked_else : {b : Bool} {v : Option ℕ} (x y : Option ℕ) → b ≡ false → v ≡ y → v ≡ cond b x y
linked_else x y p e = rw p e

-- ---- an option is followed: u is the first, v the answer
pub linked_on : {u v : Option ℕ} {k : ℕ} (o : Option ℕ) (f : ℕ → Option ℕ) → u ≡ Some k → u ≡ o → v ≡ f k → v ≡ found o f None
linked_on o f p e q = rw (to_some o p e) q

pub linked_off : {u : Option ℕ} (o : Option ℕ) (f : ℕ → Option ℕ) → u ≡ None → u ≡ o → None ≡ found o f None
linked_off o f p e = rw (nowhere_none o p e)

-- ---- one option, or else another
pub linked_first : {u : Option ℕ} {k : ℕ} (a b : Option ℕ) → u ≡ Some k → u ≡ a → Some k ≡ or_else a b
linked_first a b p e = rw (to_some a p e)

pub linked_next : {u v : Option ℕ} (a b : Option ℕ) → u ≡ None → u ≡ a → v ≡ b → v ≡ or_else a b
linked_next a b p e q = rw (nowhere_none a p e) q

pub ruleset links = (
  to_some,
  nowhere_none,
  some_to,
  none_nowhere,
  linked_then,
  linked_else,
  linked_on,
  linked_off,
  linked_first,
  linked_next,
)
