-- A search in code: what it answers tells of the place that is found. Assumes nothing.
use Prim.Native.Nat.{ℕ}
use mathlib.Core.Path.{◌≡◌, refl}
use Rattle.std.specs.declared.option.Option.{Option}
use Rattle.std.specs.declared.option.Option.TheVariants.{None, Some}
use Rattle.laws.specs.Options.{or_else}
use Rattle.laws.proofs.First.{first_none, first_next, first_here, first_end}
use Rattle.laws.proofs.FirstFrom.{spans, none_there, seeks}

pub at_some : {v : Option ℕ} {i : ℕ} (o : Option ℕ) → v ≡ Some i → v ≡ o → o ≡ Some i
at_some (Some j) p e = cc
at_some None p e = cc

pub nothing_none : {v : Option ℕ} (o : Option ℕ) → v ≡ None → v ≡ o → o ≡ None
nothing_none (Some j) p e = cc
nothing_none None p e = refl

pub some_at : {o : Option ℕ} {i : ℕ} → o ≡ Some i → Some i ≡ o
some_at e = rw e

pub none_nothing : {o : Option ℕ} → o ≡ None → None ≡ o
none_nothing e = rw e

-- nothing in the first part: the answer is the rest's
pub placed_on : {v : Option ℕ} {a : Option ℕ} (b : Option ℕ) → a ≡ None → v ≡ b → v ≡ or_else a b
placed_on b e f = rw e f

pub ruleset finds = (spans, none_there, first_none, first_next, first_here, first_end, seeks, at_some, nothing_none, some_at, none_nothing, placed_on)
