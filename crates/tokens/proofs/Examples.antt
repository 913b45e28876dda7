-- Small formulas, by computation. Assumes nothing.
use Prim.Native.Nat.{ℕ}
use mathlib.Core.Path.{◌≡◌, refl}
use mathlib.Core.List.{List, [], ◌∷◌, ◌++◌}
use Rattle.std.specs.declared.option.Option.TheVariants.{None, Some}
use lib.ListN.{replicate}
use Rattle.laws.specs.Ranges.{tab}
use Rattle.rules.specs.Bytes.{le2, le4}
use Rattle.rules.specs.Formula.{walk, shape, malformed_at}
use Rattle.rules.specs.Token.{token_at, token_by, tokens_in, unused_zero, exponent_at, good_length}
use Rattle.tokens.specs.Shown.{malformed_in}

-- a token with no field but its code
abbrev plain : ℕ → List ℕ
plain code = code ∷ replicate 11 0

-- no token at all, and a byte too many
no_token : malformed_in [] ≡ Some 0
unfolding malformed_in good_length
no_token = refl

byte_over : malformed_in (replicate 13 0) ≡ Some 0
unfolding malformed_in good_length
byte_over = refl

-- a number; two of them, which the end leaves; two of them, compared
one_number : malformed_in (plain 0) ≡ None
unfolding malformed_in good_length malformed_at walk shape tokens_in tab token_at token_by unused_zero exponent_at le4 le2
one_number = refl

two_numbers : malformed_in (plain 0 ++ plain 0) ≡ Some 2
unfolding malformed_in good_length malformed_at walk shape tokens_in tab token_at token_by unused_zero exponent_at le4 le2
two_numbers = refl

two_compared : malformed_in (plain 0 ++ plain 0 ++ plain 11) ≡ None
unfolding malformed_in good_length malformed_at walk shape tokens_in tab token_at token_by unused_zero exponent_at le4 le2
two_compared = refl

-- an operation with one term, a code that there isn't, and a 33rd term
one_short : malformed_in (plain 0 ++ plain 2) ≡ Some 1
unfolding malformed_in good_length malformed_at walk shape tokens_in tab token_at token_by unused_zero exponent_at le4 le2
one_short = refl

no_code : malformed_in (plain 0 ++ plain 12) ≡ Some 1
unfolding malformed_in good_length malformed_at walk shape tokens_in tab token_at token_by unused_zero exponent_at le4 le2
no_code = refl

one_term_more : malformed_in (replicate 408 0) ≡ Some 32
unfolding malformed_in good_length malformed_at walk shape tokens_in tab token_at token_by unused_zero exponent_at le4 le2
one_term_more = refl
