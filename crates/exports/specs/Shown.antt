-- The words of the code's own answers, and what becomes of a buffer. The laws in proofs/Sheets say that they are those of the rules' answers.
use Rattle.std.specs.Prelude.{ℕ, Bool, cond, List, [], ◌∷◌, ◌++◌, map, leb, length}
use Rattle.std.specs.declared.result.Result.{Result}
use Rattle.std.specs.declared.result.Result.TheVariants.{Ok, Err}
use Rattle.laws.specs.Options.{found}
use Rattle.laws.specs.Ranges.{overlay}
use Rattle.error.specs.Shown.{said_of}
use Rattle.error.specs.declared.fault.Fault.{Fault}
use Rattle.error.specs.declared.said.Said.{Said}
use Rattle.formula.specs.declared.terms.Term.{Term}
use Rattle.formula.specs.Shown.{term_of}
use Rattle.table.specs.Shown.{exponents_of}
use Rattle.exports.specs.Sheet.{capped, padded, kind_words, term_words}

-- what a refusal returns: the exponents of dimensions where there are any, and four values, zeros past those that it has
unfoldable pub returned_of : Said → List ℕ
returned_of s = found s.dims exponents_of [] ++ map capped s.values

unfoldable pub fault_words : Fault → List ℕ
fault_words x = padded (2 ∷ (said_of x.error).number ∷ capped x.place ∷ returned_of (said_of x.error))

-- what the code makes of each thing that is given: done, a kind, a term
abbrev pub compiled_sheet : Unit {0} → List ℕ
compiled_sheet u = padded (3 ∷ [])

abbrev pub kind_sheet : ℕ → List ℕ
kind_sheet k = padded (kind_words k)

abbrev pub term_sheet : Term → List ℕ
term_sheet t = padded (term_words (term_of t))

module _ {A : Type 0} where
  -- the words of an answer, where `made` has those of an A
  unfoldable pub answer_words : (A → List ℕ) → Result A Fault → List ℕ
  answer_words made (Ok a) = made a
  answer_words made (Err x) = fault_words x

  -- whether a buffer has room for words, and what it then holds
  unfoldable pub has_room_for : List A → List A → Bool
  has_room_for ws old = leb (length ws) (length old)

  unfoldable pub laid : List A → List A → List A
  laid ws old = cond (has_room_for ws old) (overlay ws old) old
