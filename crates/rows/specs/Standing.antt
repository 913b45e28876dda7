-- Words that stand for a list of rows in one lookup.
use Rattle.std.specs.Prelude.{ℕ, Bool, cond, List, [], ◌∷◌}
use Rattle.std.specs.declared.option.Option.{Option}
use Rattle.laws.specs.Options.{found}
use Rattle.rules.specs.Table.{row_words}
use Rattle.lookup.specs.Shown.{op_by}

-- where the rows are in range, the row for the pair, or none; where they are not, one word, which is no row
unfoldable pub standing : Bool → Option ℕ → ℕ → ℕ → ℕ → List ℕ
standing fine named code l r = cond fine (found named (row_words l (op_by code) r) []) (0 ∷ [])
