-- What the code's lines show of the rules: the bytes of a line, and the line for each answer. `line_termed` says that it is the rules' own.
use Rattle.std.specs.Prelude.{ℕ, ◌+◌, cond, List, [], ◌∷◌, ◌++◌, ltb, length, set, replicate}
use Rattle.std.specs.declared.option.Option.{Option}
use Rattle.std.specs.declared.option.Option.TheVariants.{None, Some}
use Rattle.std.specs.declared.result.Result.{Result}
use Rattle.std.specs.declared.result.Result.TheVariants.{Ok, Err}
use Rattle.laws.specs.Ranges.{overlay}
use Rattle.rules.specs.Report.{kind_part, digits}
use Rattle.error.specs.Shown.{said_of}
use Rattle.error.specs.declared.fault.Fault.{Fault}
use Rattle.formula.specs.declared.terms.Term.{Term}
use Rattle.formula.specs.declared.terms.Term.TheVariants.{Number, Kind}
use Rattle.printed.specs.declared.text.Line.{Line}

-- a line of these bytes, with zeros after them
abbrev pub written : List ℕ → Line
written xs = record { bytes = overlay xs (replicate 64 0); length = length xs }

-- the line with a byte after its own, if there is room
unfoldable pub with_byte : Line → ℕ → Line
with_byte l x = cond (ltb l.length 64) (record { bytes = set l.bytes l.length x; length = l.length + 1 }) l

-- with these bytes, one after the other
unfoldable pub added : Line → List ℕ → Line
added l [] = l
added l (x ∷ xs) = added (with_byte l x) xs

-- ---- the lines: `number`, `kind 1 volume`, `refused 44 2`
abbrev pub number_line : List ℕ
number_line = 110 ∷ 117 ∷ 109 ∷ 98 ∷ 101 ∷ 114 ∷ 10 ∷ []

abbrev pub kind_line : List ℕ → ℕ → List ℕ
kind_line image k = (107 ∷ 105 ∷ 110 ∷ 100 ∷ 32 ∷ []) ++ digits k ++ (32 ∷ []) ++ kind_part image k ++ (10 ∷ [])

abbrev pub refused_line : ℕ → ℕ → List ℕ
refused_line number place = (114 ∷ 101 ∷ 102 ∷ 117 ∷ 115 ∷ 101 ∷ 100 ∷ 32 ∷ []) ++ digits number ++ (32 ∷ []) ++ digits place ++ (10 ∷ [])

-- a formula's answer: a term or a refusal, and never a check that passed
unfoldable pub of_formula : Result Term Fault → Result (Option Term) Fault
of_formula (Ok t) = Ok (Some t)
of_formula (Err x) = Err x

-- of an answer to a formula, and no line for a check that passed
unfoldable pub line_of : List ℕ → Result (Option Term) Fault → List ℕ
line_of image (Ok (Some Number)) = number_line
line_of image (Ok (Some (Kind k))) = kind_line image k
line_of image (Ok None) = []
line_of image (Err x) = refused_line (said_of x.error).number x.place
