-- What a stored answer says of an answer given here (docs/VECTORS.md, 'An answer').
use Rattle.std.specs.Prelude.{ℕ, ◌+◌, ◌*◌, Bool, true, ◌&&◌, ◌||◌, List, leb, eqb, length, get_or, drop}
use Rattle.std.specs.declared.option.Option.{Option}
use Rattle.std.specs.declared.option.Option.TheVariants.{None, Some}
use Rattle.laws.specs.Ranges.{all}
use Rattle.rules.specs.Bytes.{byte, le2, le4}
use Rattle.dimension.specs.Dimension as D
use Rattle.dimension.specs.declared.dimensions.Dimensions.{Dimensions}
use Rattle.error.specs.Shown.{said_of}
use Rattle.error.specs.declared.fault.Fault.{Fault}
use Rattle.error.specs.declared.said.Said.{Said}
use Rattle.stored.specs.Exponents.{dimensions}

-- where the twins stand, and where the answer ends
unfoldable pub twins_at : List ℕ → ℕ
twins_at s = 8 + 4 * le2 s 4

unfoldable pub size_of : List ℕ → ℕ
size_of s = twins_at s + 2 * le2 s 6

-- the twin list begins with the stored twins
unfoldable pub twin_as : List ℕ → List ℕ → ℕ → Bool
twin_as s twins k = eqb (le2 s (twins_at s + 2 * k)) (get_or twins k 0)

unfoldable pub twins_as : List ℕ → List ℕ → Bool
twins_as s twins = leb (le2 s 6) (length twins) && all (twin_as s twins) (le2 s 6)

-- 65535 where the Rust can't tell
unfoldable pub place_as : ℕ → ℕ → Bool
place_as stored place = eqb stored 65535 || eqb stored place

-- the values stand from `at` on
unfoldable pub value_as : List ℕ → ℕ → Said → ℕ → Bool
value_as s at said k = eqb (le4 s (at + 4 * k)) (get_or said.values k 0)

unfoldable pub values_as : List ℕ → ℕ → Said → Bool
values_as s at said = all (value_as s at said) said.count

-- the numbers that dimensions take before the values
unfoldable pub numbers_before : Option Dimensions → ℕ
numbers_before (Some d) = 24
numbers_before None = 0

unfoldable pub dimensions_as : List ℕ → Option Dimensions → Bool
dimensions_as s (Some d) = D.equal d (dimensions (drop 8 s))
dimensions_as s None = true

unfoldable pub numbers_as : List ℕ → Said → Bool
numbers_as s said =
    eqb (le2 s 4) (numbers_before said.dims + said.count) && dimensions_as s said.dims && values_as s (8 + 4 * numbers_before said.dims) said

unfoldable pub cause_as : List ℕ → Said → ℕ → Bool
cause_as s said place = eqb (byte s 0) 2 && eqb (byte s 1) said.number && place_as (le2 s 2) place

-- a number or a kind: nothing else is stored with it
unfoldable pub plain_as : List ℕ → ℕ → ℕ → Bool
plain_as s what index = eqb (le2 s 0) what && eqb (le2 s 2) index && eqb (le4 s 4) 0

-- ---- the answer that s begins with is a number, this kind, or this refusal, with this twin list
unfoldable pub number_as : List ℕ → Bool
number_as s = plain_as s 0 0

unfoldable pub kind_as : List ℕ → ℕ → Bool
kind_as s k = plain_as s 1 k

unfoldable pub refusal_as : List ℕ → Fault → List ℕ → Bool
refusal_as s x twins = cause_as s (said_of x.error) x.place && numbers_as s (said_of x.error) && twins_as s twins
