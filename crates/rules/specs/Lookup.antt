-- A lone lookup over lent words. "Order for a lone lookup: 5, 40, 50 (operation without a code here, or exponent outside its limits), 41 left, 41
-- right." Its place is 0.
use Rattle.std.specs.Prelude.{ℕ, not, ◌&&◌, List, [], ℤ, length}
use Rattle.std.specs.declared.option.Option.{Option}
use Rattle.std.specs.declared.option.Option.TheVariants.{None, Some}
use Rattle.laws.specs.Out.{given, refused, ◌>>=◌, ◌>>◌, refuse_if, needed}
use Rattle.dimension.specs.Fraction as F
use Rattle.dimension.specs.declared.rational.Rational.{Rational}
use Rattle.rules.specs.Refusal.{Answer, Placed, at, NoTable, Malformed}
use Rattle.rules.specs.Arithmetic as rule
use Rattle.rules.specs.Table.{table_size, room_for, kinds_of, rows_of, is_table, are_rows}

-- "table under 9,296 32-bit words, or twin list under 240 16-bit": 5, "length lent, the table's first"
unfoldable pub roomy : List ℕ → List ℕ → Answer (Unit {0})
roomy table twins = room_for table_size (length table) >> room_for 240 (length twins)

-- 40
unfoldable pub tabled : List ℕ → List ℕ → Answer (Unit {0})
tabled table rows = refuse_if (not (is_table table && are_rows table rows)) NoTable

-- "5, 40, 50 .., 41 left, 41 right", then the sum or product
unfoldable pub combine : List ℕ → List ℕ → List ℕ → ℕ → ℕ → ℕ → Placed ℕ
combine table rows twins code l r = at 0 (do
  roomy table twins
  tabled table rows
  op ← needed (rule.op_by code) (Malformed 0)
  rule.indexed (kinds_of table) l
  rule.indexed (kinds_of table) r
  rule.combine (kinds_of table) (rows_of rows) op l r)

-- an exponent as it is handed over: inexact, or a numerator and a denominator, "reduced first"
pub data Exponent : Type 0 where
  exact : ℤ → ℕ → Exponent
  inexact : Exponent

-- 50: "exponent outside its limits"
abbrev pub exponent : Exponent → Answer (Option Rational)
exponent (exact n d) = elim (F.answer n d) [ Some e ↦ given (Some e) | None ↦ refused (Malformed 0) ]
exponent inexact = given None

-- "8 exact power, 9 inexact power"
abbrev pub power_code : Exponent → ℕ
power_code x = elim x [ exact n d ↦ 8 | inexact ↦ 9 ]

-- a power reads no rows
unfoldable pub power : List ℕ → List ℕ → ℕ → Exponent → Placed ℕ
power table twins k x = at 0 (do
  roomy table twins
  tabled table []
  e ← exponent x
  rule.indexed (kinds_of table) k
  rule.power (kinds_of table) (power_code x) k e)
