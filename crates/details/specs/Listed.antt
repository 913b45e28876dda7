-- How many entries of the twin list belong to an answer, by its words: as many as 44 and 48 return.
use Rattle.std.specs.Prelude.{ℕ, Bool, cond, ◌&&◌, ◌||◌, List, eqb, get_or}

unfoldable pub lists_twins : ℕ → ℕ → Bool
lists_twins what number = eqb what 2 && (eqb number 44 || eqb number 48)

unfoldable pub twin_count : List ℕ → ℕ
twin_count ws = cond (lists_twins (get_or ws 0 0) (get_or ws 1 0)) (get_or ws 3 0) 0
