-- One call of a formula over lent words and bytes. "Order: 5, 40, 50, then token by token".
use Rattle.std.specs.Prelude.{ℕ, cond, List}
use Rattle.laws.specs.Out.{given, refused, ◌>>◌}
use Rattle.rules.specs.Kinds.{Kinds, Rows}
use Rattle.rules.specs.Refusal.{Refusal, Placed, at, Malformed}
use Rattle.rules.specs.Table.{kinds_of, rows_of}
use Rattle.rules.specs.Lookup.{roomy, tabled}
use Rattle.rules.specs.Formula.{Ended, answered, stopped, malformed, Term, formula}
use Rattle.rules.specs.Token.{tokens_in, good_length}

-- a malformed formula is refused with its place, which is what it returns
abbrev pub ending : Ended Refusal Term → Placed Term
ending (answered t) = given t
ending (stopped p x) = refused (record { place = p; refusal = x })
ending (malformed p) = refused (record { place = p; refusal = Malformed p })

-- 50, "0 for a bad length"
unfoldable pub formula_in : Kinds → Rows → List ℕ → Placed Term
formula_in K rows bytes = ending (cond (good_length bytes) (formula K rows (tokens_in bytes)) (malformed 0))

-- "Order: 5, 40, 50, then token by token, stopping at the first refusal."
unfoldable pub call : List ℕ → List ℕ → List ℕ → List ℕ → Placed Term
call table rows twins bytes = do
  at 0 (roomy table twins)
  at 0 (tabled table rows)
  formula_in (kinds_of table) (rows_of rows) bytes
