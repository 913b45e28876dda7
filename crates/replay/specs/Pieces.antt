-- What a stored line says of the line that kindcheck prints, and the answer of a section by its group: 6 are lines, 2 compilations.
use Rattle.std.specs.Prelude.{ℕ, ◌+◌, Bool, cond, ◌&&◌, List, eqb, drop}
use Rattle.laws.specs.Ranges.{all}
use Rattle.rules.specs.Bytes.{byte, le2}
use Rattle.rules.specs.Report.{kindcheck}
use Rattle.printed.specs.Shown.{written}
use Rattle.printed.specs.declared.text.Line.{Line}
use Rattle.replay.specs.Compiled.{compiled_so}

unfoldable pub byte_as : List ℕ → List ℕ → ℕ → Bool
byte_as s t i = eqb (byte s i) (byte t i)

-- the line that s begins with is this one
unfoldable pub line_as : List ℕ → Line → Bool
line_as s l = eqb (le2 s 0) l.length && all (byte_as (drop 2 s) l.bytes) l.length

-- kindcheck prints it for the input
unfoldable pub printed_so : List ℕ → List ℕ → Bool
printed_so s input = line_as s (written (kindcheck input))

unfoldable pub line_size : List ℕ → ℕ
line_size s = 2 + le2 s 0

-- the answer that s begins with is given to the input
unfoldable pub agreed_on : ℕ → List ℕ → List ℕ → Bool
agreed_on group s input = cond (eqb group 6) (printed_so s input) (compiled_so s input)
