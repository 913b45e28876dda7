-- What the code returns, by the rules: over the words that an image compiles into, with the rows of these words and a twin list of zeros.
use Rattle.std.specs.Prelude.{ℕ, List, replicate}
use Rattle.std.specs.declared.result.Result.{Result}
use Rattle.std.specs.declared.result.Result.TheVariants.{Ok, Err}
use Rattle.laws.specs.Out.{given, refused}
use Rattle.rules.specs.Refusal as rule
use Rattle.rules.specs.Refusal.{Placed, twins_after}
use Rattle.rules.specs.Formula.{Term}
use Rattle.rules.specs.Image.{compile_image, table_after}
use Rattle.rules.specs.Table.{own_rows}
use Rattle.rules.specs.Call.{call}
use Rattle.error.specs.Shown.{fault_of}
use Rattle.error.specs.declared.fault.Fault.{Fault}
use Rattle.formula.specs.Shown.{termed}
use Rattle.comparison.specs.declared.runs.Called.{Called}
use Rattle.comparison.specs.declared.runs.Both.{Both}

-- the table and the twin list that a run lends
abbrev pub blank_table : List ℕ
blank_table = replicate 9296 0

abbrev pub blank_twins : List ℕ
blank_twins = replicate 240 0

-- what a call's answer shows
abbrev pub called : Placed Term → Called
called m = record { answer = termed m; twins = twins_after m blank_twins }

-- what a compilation's refusal shows
abbrev pub uncompiled : rule.Fault → Result Called Fault
uncompiled x = Err (fault_of x)

unfoldable pub called_over : List ℕ → List ℕ → Called
called_over t bytes = called (call t (own_rows t) blank_twins bytes)

unfoldable pub run_of : List ℕ → List ℕ → Result Called Fault
run_of s bytes = elim (compile_image s 9296) [ given c ↦ Ok (called_over (table_after s blank_table) bytes) | refused x ↦ uncompiled x ]

unfoldable pub both_of : List ℕ → List ℕ → List ℕ → Both
both_of s l bytes = record { small = run_of s bytes; large = run_of l bytes }
