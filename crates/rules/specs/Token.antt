-- Tokens from bytes: "1 to 128 tokens of 12 bytes in postfix order: code at 0, zero at 1, kind index at 2 (16 bits), exponent numerator at 4
-- (signed 32 bits), denominator at 8 (32 bits)."
use Rattle.std.specs.Prelude.{ℕ, ◌+◌, ◌*◌, ◌/◌, ◌%◌, Bool, cond, ◌&&◌, ◌||◌, List, [], ◌∷◌, ◌++◌, map, eqb, leb, length, get_or}
use Rattle.laws.specs.Ranges.{tab}
use Rattle.dimension.specs.Integer as I
use Rattle.dimension.specs.Fraction as F
use Rattle.dimension.specs.declared.rational.Rational.{Rational}
use Rattle.rules.specs.Bytes.{byte, le2, le4}
use Rattle.rules.specs.Arithmetic.{ops}
use Rattle.rules.specs.Formula.{Token, number, kind, unary, binary, unreadable, exact, inexact, absolute, combined, compared}

-- "reduced first"
unfoldable pub exponent_at : List ℕ → ℕ → Rational
exponent_at s p = F.lowest (I.twos 2147483648 (le4 s (p + 4))) (le4 s (p + 8))

-- "Codes: 0 number, 1 kind, 2 Add, 3 Sub, 4 Mul, 5 Div, 6 Dot, 7 Wedge, 8 exact power, 9 inexact power, 10 absolute, 11 compare."
unfoldable pub token_by : ℕ → ℕ → Rational → Token
token_by code index e = get_or (number ∷ kind index ∷ map (λ op. binary (combined op)) ops ++ (unary (exact e) ∷ unary inexact ∷ unary absolute ∷ binary compared ∷ [])) code unreadable

-- "Fields a code doesn't use are zero."
unfoldable pub unused_zero : List ℕ → ℕ → Bool
unused_zero s p =
    eqb (byte s (p + 1)) 0
    && (eqb (byte s p) 1 || eqb (le2 s (p + 2)) 0)
    && (eqb (byte s p) 8 || (eqb (le4 s (p + 4)) 0 && eqb (le4 s (p + 8)) 0))

-- token k
unfoldable pub token_at : List ℕ → ℕ → Token
token_at s k = cond (unused_zero s (12 * k)) (token_by (byte s (12 * k)) (le2 s (12 * k + 2)) (exponent_at s (12 * k))) unreadable

-- all tokens
unfoldable pub tokens_in : List ℕ → List Token
tokens_in s = tab (token_at s) (length s / 12)

-- "1 to 128 tokens of 12 bytes"
unfoldable pub good_length : List ℕ → Bool
good_length s = eqb (length s % 12) 0 && leb 12 (length s) && leb (length s) 1536
