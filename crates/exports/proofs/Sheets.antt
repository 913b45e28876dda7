-- The words of the code's answers are those of the rules' answers that they show, 32 of them. Assumes nothing.
use Prim.Native.Nat.{ℕ}
use mathlib.Core.Path.{◌≡◌, refl, sym, ◌∙◌, ap}
use mathlib.Core.Bool.{Bool}
use mathlib.Core.List.{List}
use native.Mathlib.Omega.{arith}
use lib.ListN.{length}
use Rattle.std.specs.Result.{MatchResult}
use Rattle.std.specs.declared.result.Result.{Result}
use Rattle.std.specs.declared.result.Result.TheVariants.{Ok, Err}
use Rattle.laws.specs.Out.{given, refused}
use Rattle.laws.specs.Ranges.{tab}
use Rattle.rules.specs.Refusal.{Refusal, Placed, told}
use Rattle.rules.specs.Compile.{Compiled}
use Rattle.rules.specs.Formula as rule
use Rattle.error.specs.Shown.{error_of, fault, shown, said_of}
use Rattle.error.specs.declared.fault.Fault.{Fault}
use Rattle.lookup.specs.Shown.{placed}
use Rattle.formula.specs.declared.terms.Term.{Term}
use Rattle.formula.specs.Shown.{term_as, termed}
use Rattle.compile.specs.Shown.{compiled}
use Rattle.table.specs.Shown.{exponents_of}
use Rattle.exports.specs.Sheet.{capped, padded, refusal_words, sheet_of, compiled_words, kind_words, term_words, has_room, written}
use Rattle.exports.specs.Shown.{returned_of, fault_words, compiled_sheet, kind_sheet, term_sheet, answer_words, has_room_for, laid}

-- where the rules return dimensions the code does; there are at most four values, and zeros follow
told_words : (x : Refusal) (at : ℕ) → fault_words (fault at (error_of x)) ≡ padded (refusal_words (record { place = at; refusal = x }))
unfolding told said_of fault_words returned_of capped exponents_of tab
told_words x at = grind arith

module _ {A B : Type 0} (tell : A → B) (made : B → List ℕ) (words : A → List ℕ) (h : (a : A) → made (tell a) ≡ padded (words a)) where
  shown_words : (m : Placed A) → answer_words made (shown tell m) ≡ sheet_of words m
  unfolding answer_words sheet_of
  shown_words (given a) = h a
  shown_words (refused x) = told_words x.refusal x.place

pub compiled_words_law : (m : Placed Compiled) → answer_words compiled_sheet (compiled m) ≡ sheet_of compiled_words m
unfolding compiled
compiled_words_law m = shown_words (λ c. tt) compiled_sheet compiled_words (λ c. refl) m

pub kind_words_law : (m : Placed ℕ) → answer_words kind_sheet (placed m) ≡ sheet_of kind_words m
unfolding placed
kind_words_law m = shown_words (λ k. k) kind_sheet kind_words (λ k. refl) m

pub term_words_law : (m : Placed rule.Term) → answer_words term_sheet (termed m) ≡ sheet_of term_words m
unfolding termed
term_words_law m = shown_words term_as term_sheet term_words go m
  where
    go : (t : rule.Term) → term_sheet (term_as t) ≡ padded (term_words t)
    go rule.Number = refl
    go (rule.Kind k) = refl

-- ---- a buffer that the words of a call's answer are written to
module _ {B : Type 0} (made : B → List ℕ) {w : List ℕ} where
  answered : (r : Result B Fault) → MatchResult r (λ b. w ≡ made b) (λ x. w ≡ fault_words x) → w ≡ answer_words made r
  unfolding answer_words
  answered (Ok b) e = e
  answered (Err x) e = e

module _ (old w : List ℕ) where
  told_laid : {ws new : List ℕ} → w ≡ ws → length w ≡ 32 → new ≡ laid w old → new ≡ written ws old
  unfolding has_room written has_room_for laid
  told_laid g n f = let k = ap length (sym g) ∙ n in f ∙ rw (g, k)

  pub compiled_laid : (m : Placed Compiled) {r : Result (Unit {0}) Fault} {new : List ℕ} → r ≡ compiled m → MatchResult r (λ u. w ≡ compiled_sheet u) (λ x. w ≡ fault_words x) → length w ≡ 32 → new ≡ laid w old → new ≡ written (sheet_of compiled_words m) old
  compiled_laid m {r} e h = told_laid (answered compiled_sheet r h ∙ ap (answer_words compiled_sheet) e ∙ compiled_words_law m)

  pub kind_laid : (m : Placed ℕ) {r : Result ℕ Fault} {new : List ℕ} → r ≡ placed m → MatchResult r (λ k. w ≡ kind_sheet k) (λ x. w ≡ fault_words x) → length w ≡ 32 → new ≡ laid w old → new ≡ written (sheet_of kind_words m) old
  kind_laid m {r} e h = told_laid (answered kind_sheet r h ∙ ap (answer_words kind_sheet) e ∙ kind_words_law m)

  pub term_laid : (m : Placed rule.Term) {r : Result Term Fault} {new : List ℕ} → r ≡ termed m → MatchResult r (λ t. w ≡ term_sheet t) (λ x. w ≡ fault_words x) → length w ≡ 32 → new ≡ laid w old → new ≡ written (sheet_of term_words m) old
  term_laid m {r} e h = told_laid (answered term_sheet r h ∙ ap (answer_words term_sheet) e ∙ term_words_law m)

  pub room_told : {v : Bool} → v ≡ has_room_for w old → length w ≡ 32 → v ≡ has_room old
  unfolding has_room has_room_for
  room_told e n = e ∙ rw n

-- ---- an answer is 32 words: what a buffer has past them stays
refusal_long : (x : Refusal) (at : ℕ) → length (padded (refusal_words (record { place = at; refusal = x }))) ≡ 32
unfolding told exponents_of tab
refusal_long x at = grind arith

module _ {A : Type 0} (words : A → List ℕ) (h : (a : A) → length (padded (words a)) ≡ 32) where
  pub sheet_long : (m : Placed A) → length (sheet_of words m) ≡ 32
  unfolding sheet_of
  sheet_long (given a) = h a
  sheet_long (refused x) = refusal_long x.refusal x.place

pub compiled_long : (m : Placed Compiled) → length (sheet_of compiled_words m) ≡ 32
compiled_long m = sheet_long compiled_words (λ c. refl) m

pub kind_long : (m : Placed ℕ) → length (sheet_of kind_words m) ≡ 32
kind_long m = sheet_long kind_words (λ k. refl) m

pub term_long : (m : Placed rule.Term) → length (sheet_of term_words m) ≡ 32
term_long m = sheet_long term_words go m
  where
    go : (t : rule.Term) → length (padded (term_words t)) ≡ 32
    go rule.Number = refl
    go (rule.Kind k) = refl
