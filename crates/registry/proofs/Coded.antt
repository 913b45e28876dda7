-- Two kinds by the code of a token: o is the operation of the code, if there is one (`codes`). Assumes nothing.
use Prim.Native.Nat.{ℕ}
use mathlib.Core.Path.{◌≡◌, refl}
use mathlib.Core.Bool.{true, false, true≢false}
use Rattle.std.specs.declared.option.Option.{Option}
use Rattle.std.specs.declared.option.Option.TheVariants.{None, Some}
use Rattle.std.specs.declared.result.Result.{Result}
use Rattle.std.specs.declared.result.Result.TheVariants.{Ok, Err}
use Rattle.std.specs.Option.{option_map, ok_or}
use Rattle.rules.specs.Kinds.{Kinds, Rows}
use Rattle.rules.specs.Arithmetic as rule
use Rattle.error.specs.Shown.{op_as, op_of}
use Rattle.error.specs.declared.cause.Error.{Error}
use Rattle.error.specs.declared.cause.Error.TheVariants as cause
use Rattle.error.specs.declared.op.Op.{Op}
use Rattle.registry.specs.Shown.{looked, combine_by}

-- an operation of the rules is the code's, read back
pub op_back : (o : rule.Op) → op_of (op_as o) ≡ o
op_back (rule.summed rule.Add) = refl
op_back (rule.summed rule.Sub) = refl
op_back (rule.multiplied op) = refl

-- q is the operation that the rules read, asked for with the error e where there is none
module _ (e : Error) where
  pub op_read : (q : Option rule.Op) {op : Op} → Ok op ≡ ok_or (option_map op_as q) e → q ≡ Some (op_of op)
  op_read (Some a) {op} p = let z : op ≡ op_as a = cc in rw (z, op_back a)
  op_read None p = let z : true ≡ false = cc in absurd (true≢false z)

  pub op_unread : (q : Option rule.Op) {x : Error} → Err x ≡ ok_or (option_map op_as q) e → (q ≡ None) × (x ≡ e)
  op_unread (Some a) p = let z : true ≡ false = cc in absurd (true≢false z)
  op_unread None p = (refl, cc)

module _ (K : Kinds) (R : Rows) (code l r : ℕ) {o : Option Op} (e : o ≡ option_map op_as (rule.op_by code)) where
  pub code_read : {v : Result ℕ Error} {op : Op} → Ok op ≡ ok_or o (cause.Malformed 0) → v ≡ looked (rule.combine K R (op_of op) l r) → v ≡ looked (combine_by K R code l r)
  unfolding combine_by
  code_read p h = let z = op_read (cause.Malformed 0) (rule.op_by code) (rw e at p) in rw z h

  pub code_unread : {x : Error} → Err x ≡ ok_or o (cause.Malformed 0) → Err x ≡ looked (combine_by K R code l r)
  unfolding looked combine_by
  code_unread p = let z = op_unread (cause.Malformed 0) (rule.op_by code) (rw e at p) in rw (z.0, z.1)

pub ruleset codes = (code_read, code_unread)
