-- What the rules answer to a stored request (docs/VECTORS.md), over a table's words t and with the twin list w lent: for lookups and for formulas.
use Rattle.std.specs.Prelude.{ℕ, zero, suc, ◌+◌, ◌*◌, Bool, cond, ◌&&◌, ◌||◌, List, ltb, eqb, length, get_or, take, drop, replicate}
use Rattle.std.specs.declared.result.Result.{Result}
use Rattle.std.specs.declared.result.Result.TheVariants.{Ok, Err}
use Rattle.laws.specs.Ranges.{all, picked}
use Rattle.dimension.specs.Integer.{twos}
use Rattle.rules.specs.Bytes.{byte, le2, le4}
use Rattle.rules.specs.Refusal.{Placed, twins_after}
use Rattle.rules.specs.Table.{own_rows}
use Rattle.rules.specs.Formula as rule
use Rattle.rules.specs.Lookup as lone
use Rattle.rules.specs.Call.{call}
use Rattle.error.specs.Shown.{shown}
use Rattle.error.specs.declared.fault.Fault.{Fault}
use Rattle.formula.specs.Shown.{termed}
use Rattle.formula.specs.declared.terms.Term.{Term}
use Rattle.formula.specs.declared.terms.Term.TheVariants.{Number, Kind}
use Rattle.stored.specs.Answers.{size_of, number_as, kind_as, refusal_as}
use Rattle.replay.specs.declared.requests.Requests.{Requests}
use Rattle.replay.specs.declared.requests.Requests.TheVariants.{Lookups, Formulas}

-- the number of a file's group, in its header
unfoldable pub group_of : Requests → ℕ
group_of Lookups = 3
group_of Formulas = 4

-- ---- the request that bytes begin with
unfoldable pub exponent_in : List ℕ → lone.Exponent
exponent_in s = cond (eqb (byte s 0) 9) lone.inexact (lone.exact (twos 2147483648 (le4 s 4)) (le4 s 8))

unfoldable pub lookup_of : List ℕ → List ℕ → List ℕ → Placed ℕ
lookup_of s t w =
    cond (ltb 7 (byte s 0)) (lone.power t w (le2 s 2) (exponent_in s)) (lone.combine t (own_rows t) w (byte s 0) (le2 s 2) (le2 s 12))

unfoldable pub formula_of : List ℕ → List ℕ → List ℕ → Placed rule.Term
formula_of s t w = call t (own_rows t) w (take (12 * le2 s 0) (drop 4 s))

-- its answer, a lookup's kind as a formula's, and what the twin list holds after it
unfoldable pub answer_of : Requests → List ℕ → List ℕ → List ℕ → Result Term Fault
answer_of Lookups s t w = shown Kind (lookup_of s t w)
answer_of Formulas s t w = termed (formula_of s t w)

unfoldable pub twins_of : Requests → List ℕ → List ℕ → List ℕ → List ℕ
twins_of Lookups s t w = twins_after (lookup_of s t w) w
twins_of Formulas s t w = twins_after (formula_of s t w) w

-- ---- the stored answer, behind it
unfoldable pub request_size : Requests → List ℕ → ℕ
request_size Lookups s = 16
request_size Formulas s = 4 + 12 * le2 s 0

-- what no request writes
abbrev pub unwritten : List ℕ
unwritten = replicate 240 54321

-- the list w has it from entry n on
unfoldable pub is_kept : List ℕ → ℕ → ℕ → Bool
is_kept w n k = ltb k n || eqb (get_or w k 0) 54321

unfoldable pub kept : List ℕ → ℕ → Bool
kept w n = all (is_kept w n) (length w)

-- the answer that s begins with is this one, with this twin list
unfoldable pub stored_as : List ℕ → Result Term Fault → List ℕ → Bool
stored_as s (Ok Number) w = number_as s
stored_as s (Ok (Kind k)) w = kind_as s k
stored_as s (Err x) w = refusal_as s x w

-- and the list has no twin past the stored ones
unfoldable pub confirmed : List ℕ → Result Term Fault → List ℕ → Bool
confirmed s a w = stored_as s a w && kept w (le2 s 6)

-- the rules answer the request as stored
unfoldable pub agreed : Requests → List ℕ → List ℕ → Bool
agreed q s t = confirmed (drop (request_size q s) s) (answer_of q s t unwritten) (twins_of q s t unwritten)

-- ---- requests one after another
unfoldable pub whole_size : Requests → List ℕ → ℕ
whole_size q s = request_size q s + size_of (drop (request_size q s) s)

-- where request i stands
unfoldable pub place_of : Requests → List ℕ → ℕ → ℕ
place_of q s zero = 0
place_of q s (suc i) = place_of q s i + whole_size q (drop (place_of q s i) s)

unfoldable pub agreed_at : Requests → List ℕ → List ℕ → ℕ → Bool
agreed_at q s t i = agreed q (drop (place_of q s i) s) t

-- how many of the first n are answered as stored
unfoldable pub agreed_of : Requests → List ℕ → List ℕ → ℕ → ℕ
agreed_of q s t n = length (picked (agreed_at q s t) n)
