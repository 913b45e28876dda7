-- What may be missing.
use Rattle.std.specs.Prelude.{Bool, true, false}
use Rattle.std.specs.declared.option.Option.{Option}
use Rattle.std.specs.declared.option.Option.TheVariants.{None, Some}

module _ {A : Type 0} where
  -- whether there is something
  abbrev pub is_some : Option A → Bool
  is_some (Some a) = true
  is_some None = false

  -- the first of the two that is there
  abbrev pub or_else : Option A → Option A → Option A
  or_else (Some a) o = Some a
  or_else None o = o

  -- f of what was found, or b where there is nothing
  abbrev pub found : {B : Type 0} → Option A → (A → B) → B → B
  found (Some a) f b = f a
  found None f b = b
