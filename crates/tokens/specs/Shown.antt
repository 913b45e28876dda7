-- What the code's enums show of the rules, and what its own functions compute on the way.
use Rattle.std.specs.Prelude.{ℕ, zero, suc, ◌+◌, ◌-◌, Bool, cond, ◌&&◌, ◌||◌, List, [], ◌∷◌, eqb, ltb, drop}
use Rattle.std.specs.declared.option.Option.{Option}
use Rattle.std.specs.declared.option.Option.TheVariants.{None, Some}
use Rattle.dimension.specs.Integer as I
use Rattle.dimension.specs.Fraction as F
use Rattle.error.specs.Shown.{op_as}
use Rattle.rules.specs.Formula.{number, kind, unary, binary, unreadable, exact, inexact, absolute, combined, compared, malformed_at}
use Rattle.rules.specs.Formula as rule
use Rattle.rules.specs.Token.{token_by, tokens_in, good_length}
use Rattle.tokens.specs.declared.token.Token.{Token}
use Rattle.tokens.specs.declared.token.Token.TheVariants.{Number, Kind, Unary, Binary, Unreadable}
use Rattle.tokens.specs.declared.token.Unary.TheVariants.{Exact, Inexact, Absolute}
use Rattle.tokens.specs.declared.token.Binary.TheVariants.{Combine, Compare}
use Rattle.tokens.specs.declared.token.Fields.{Fields}

-- ---- tokens
-- the code's case for each token of the rules. An exponent over the limits is out of place wherever it stands, like a token that can't be read
abbrev pub coded : rule.Token → Token
coded number = Number
coded (kind k) = Kind k
coded (unary (exact e)) = cond (F.within e) (Unary (Exact e)) Unreadable
coded (unary inexact) = Unary Inexact
coded (unary absolute) = Unary Absolute
coded (binary (combined op)) = Binary (Combine (op_as op))
coded (binary compared) = Binary Compare
coded unreadable = Unreadable

-- a token's five fields: those that its code doesn't use are zero
unfoldable pub unused : ℕ → ℕ → ℕ → ℕ → ℕ → Bool
unused code second index num den = eqb second 0 && (eqb code 1 || eqb index 0) && (eqb code 8 || (eqb num 0 && eqb den 0))

-- and the token that they make
unfoldable pub token_of : ℕ → ℕ → ℕ → ℕ → ℕ → rule.Token
token_of code second index num den = cond (unused code second index num den) (token_by code index (F.lowest (I.twos 2147483648 num) den)) unreadable

-- the same of the code's struct
unfoldable pub made : Fields → rule.Token
made f = token_of f.code f.second f.index f.num f.den

-- the tokens from k on, which a loop has still before it
unfoldable pub remaining : List ℕ → ℕ → List rule.Token
remaining s k = drop k (tokens_in s)

-- ---- where a formula is malformed
-- of the terms held together, only how many there are
unfoldable pub grown : ℕ → Option ℕ
grown d = cond (ltb d 32) (Some (d + 1)) None

unfoldable pub kept : ℕ → Option ℕ
kept d = cond (ltb 0 d) (Some d) None

unfoldable pub joined : ℕ → Option ℕ
joined d = cond (ltb 1 d) (Some (d - 1)) None

abbrev pub after : Token → ℕ → Option ℕ
after Number d = grown d
after (Kind k) d = grown d
after (Unary u) d = kept d
after (Binary b) d = joined d
after Unreadable d = None

-- 50: "0 for a bad length", then the first bad token, or the token count
unfoldable pub malformed_in : List ℕ → Option ℕ
malformed_in s = cond (good_length s) (malformed_at (tokens_in s)) (Some 0)

-- ---- for the proofs: d terms of which nothing is known
unfoldable pub units : ℕ → List (Unit {0})
units zero = []
units (suc d) = tt ∷ units d
