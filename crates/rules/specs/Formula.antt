-- Formulas in postfix order, walked with a stack. What a token does to the terms it takes is a machine's: one walk serves to find what is malformed
-- (50), to give each step its kind, and to calculate from the leaves.
use Rattle.std.specs.Prelude.{ℕ, suc, Bool, true, cond, List, [], ◌∷◌, ltb, pos, neg_ℤ, length}
use Rattle.std.specs.declared.option.Option.{Option}
use Rattle.std.specs.declared.option.Option.TheVariants.{None, Some}
use Rattle.laws.specs.Options.{found}
use Rattle.laws.specs.Out.{Out, given, refused, mapped, needed, ◌>>◌}
use Rattle.dimension.specs.Fraction as F
use Rattle.dimension.specs.Dimension as D
use Rattle.dimension.specs.declared.rational.Rational.{Rational}
use Rattle.dimension.specs.declared.dimensions.Dimensions.{Dimensions}
use Rattle.dimension.specs.declared.grade.ProductOp.{ProductOp}
use Rattle.dimension.specs.declared.grade.ProductOp.TheVariants.{Mul, Div, Dot, Wedge}
use Rattle.rules.specs.Kinds.{Kinds, Rows}
use Rattle.rules.specs.Refusal.{Refusal, Answer, NumberTerm, code_of}
use Rattle.rules.specs.Arithmetic.{Op, summed, multiplied, op_code, combine, power, scaled, agree, joined, indexed, grade_by}

-- ---- tokens
-- "8 exact power, 9 inexact power, 10 absolute"
pub data Unary : Type 0 where
  exact : Rational → Unary
  inexact absolute : Unary

-- "2 Add, 3 Sub, 4 Mul, 5 Div, 6 Dot, 7 Wedge", "11 compare"
pub data Binary : Type 0 where
  combined : Op → Binary
  compared : Binary

-- unreadable: an unknown code, or a field that is not zero though the code doesn't use it
pub data Token : Type 0 where
  number unreadable : Token
  kind : ℕ → Token
  unary : Unary → Token
  binary : Binary → Token

-- "Exponents: numerator ±2,147,483,647, denominator 1 to 2,147,483,647, reduced first"
abbrev pub in_limits : Unary → Bool
in_limits u = elim u [ exact e ↦ F.within e | inexact ↦ true | absolute ↦ true ]

-- ---- the walk
-- what each token does to the terms it takes
abbrev pub Machine : Type 0 → Type 0 → Type 0
Machine E A = record { number : A; kind : ℕ → Out E A; unary : Unary → A → Out E A; binary : Binary → A → A → Out E A }

-- one step: a new stack, a refusal, or a token that is malformed there
pub data Step (E A : Type 0) : Type 0 where
  on : List A → Step E A
  stop : E → Step E A
  bad : Step E A

-- the term that remains; refused at a token; malformed at a token, or at the end
pub data Ended (E A : Type 0) : Type 0 where
  answered : A → Ended E A
  stopped : ℕ → E → Ended E A
  malformed : ℕ → Ended E A

module _ {E A : Type 0} where
  -- a term given goes on top of the rest
  abbrev pub onto : List A → Out E A → Step E A
  onto s (given a) = on (a ∷ s)
  onto s (refused x) = stop x

  -- "At most 32 terms are held together"
  abbrev pub with_none : Out E A → List A → Step E A
  with_none m s = cond (ltb (length s) 32) (onto s m) bad

  -- a step that takes the term on top
  abbrev pub with_one : (A → Out E A) → List A → Step E A
  with_one f [] = bad
  with_one f (a ∷ s) = onto s (f a)

  -- a step that takes two: "in postfix order" the right one is on top
  abbrev pub with_two : (A → A → Out E A) → List A → Step E A
  with_two f [] = bad
  with_two f (b ∷ []) = bad
  with_two f (b ∷ a ∷ s) = onto s (f a b)

  -- "one remains"; "token count if the end leaves several"
  abbrev pub last : ℕ → List A → Ended E A
  last n [] = malformed n
  last n (a ∷ []) = answered a
  last n (b ∷ a ∷ s) = malformed n

module _ {E A : Type 0} (M : Machine E A) where
  -- a token by the terms that it takes
  abbrev pub step : Token → List A → Step E A
  step number s = with_none (given M.number) s
  step (kind k) s = with_none (M.kind k) s
  step (unary u) s = cond (in_limits u) (with_one (M.unary u) s) bad
  step (binary b) s = with_two (M.binary b) s
  step unreadable s = bad

  -- "token by token, stopping at the first refusal"
  unfoldable pub walk : List Token → ℕ → List A → Ended E A
  walk [] p s = last p s
  walk (t ∷ ts) p s = elim (step t s) [ on s' ↦ walk ts (suc p) s' | stop x ↦ stopped p x | bad ↦ malformed p ]

-- ---- 50: where each step gives something, the walk ends malformed or answers
unfoldable pub shape : Machine ⊥ (Unit {0})
shape = record { number = tt; kind = λ k. given tt; unary = λ u a. given tt; binary = λ b x y. given tt }

-- "first bad token; token count if the end leaves several"
unfoldable pub malformed_at : List Token → Option ℕ
malformed_at toks = elim (walk shape toks 0 []) [ answered u ↦ None | stopped p x ↦ absurd x | malformed p ↦ Some p ]

-- ---- the Rust's `Term`: "Each step answers as `Term::combine`, `power`, `absolute` or `same` does; compare leaves the left kind."
pub data Term : Type 0 where
  Number : Term
  Kind : ℕ → Term

-- "number / kind is power −1"
abbrev pub minus_one : Rational
minus_one = F.ratio (neg_ℤ (pos 1)) 1

-- a number and a kind have a product and a quotient; by Dot and Wedge they are refused for x. The calculation from leaves asks this too
abbrev pub by_number : {E A : Type 0} → ProductOp → Out E A → Out E A → E → Out E A
by_number op product quotient x = elim op [ Mul ↦ product | Div ↦ quotient | Dot ↦ refused x | Wedge ↦ refused x ]

-- a kind with a number, on either side; `quotient` is what their quotient is
unfoldable pub with_number : Kinds → Binary → ℕ → Answer ℕ → Answer ℕ
with_number K (combined (multiplied op)) k quotient = by_number op (scaled K 4 k) quotient (NumberTerm (code_of op) k)
with_number K (combined (summed s)) k quotient = refused (NumberTerm (op_code (summed s)) k)
with_number K compared k quotient = refused (NumberTerm 11 k)

-- `Term::combine` and `same` of two kinds: "compare leaves the left kind"
unfoldable pub two_kinds : Kinds → Rows → Binary → ℕ → ℕ → Answer ℕ
two_kinds K rows b l r = elim b [ combined op ↦ combine K rows op l r | compared ↦ agree l r l ]

-- `Term::power` and `absolute` of a kind, by the code of the token
unfoldable pub one_kind : Kinds → Unary → ℕ → Answer ℕ
one_kind K u k = elim u [ exact e ↦ power K 8 k (Some e) | inexact ↦ power K 9 k None | absolute ↦ scaled K 10 k ]

-- of two terms: numbers alone give a number
unfoldable pub binary_term : Kinds → Rows → Binary → Term → Term → Answer Term
binary_term K rows b Number Number = given Number
binary_term K rows b (Kind l) (Kind r) = mapped Kind (two_kinds K rows b l r)
binary_term K rows b (Kind k) Number = mapped Kind (with_number K b k (scaled K 5 k))
binary_term K rows b Number (Kind k) = mapped Kind (with_number K b k (power K 5 k (Some minus_one)))

-- of one term: so does a number
unfoldable pub unary_term : Kinds → Unary → Term → Answer Term
unary_term K u t = elim t [ Number ↦ given Number | Kind k ↦ mapped Kind (one_kind K u k) ]

-- 41
unfoldable pub kind_term : Kinds → ℕ → Answer Term
kind_term K k = indexed K k >> given (Kind k)

-- each step given its kind
unfoldable pub terms : Kinds → Rows → Machine Refusal Term
terms K rows = record { number = Number; kind = kind_term K; unary = unary_term K; binary = binary_term K rows }

-- "50, then token by token": 50 is looked for over the whole list first
unfoldable pub formula : Kinds → Rows → List Token → Ended Refusal Term
formula K rows toks = found (malformed_at toks) malformed (walk (terms K rows) toks 0 [])

-- ---- "Calculation from leaves, with no lookup of kinds"
pub data Meaning : Type 0 where
  plain : Meaning
  of : Option Dimensions → ℕ → Meaning

-- "a number is a number; a kind has its dimensions (or none) and grade"
abbrev pub meaning : Kinds → Term → Meaning
meaning K t = elim t [ Number ↦ plain | Kind k ↦ of (K.dims k) (K.grade k) ]

-- "products add or subtract exponents"
abbrev pub both : ProductOp → Option Dimensions → Option Dimensions → Option Dimensions
both op a b = found a (λ x. found b (λ y. Some (joined op x y)) None) None

-- "power multiplies exponents, its grade scalar unless the exponent is one"
abbrev pub powered : Rational → Option Dimensions → ℕ → Meaning
powered e a g = cond (F.is_one e) (of a g) (of (found a (λ d. Some (D.or_one (D.power d e))) None) 0)

-- "and use the grade rule"; "scaling (by a number) .. keep; number / kind is power −1; numbers alone give a number"
unfoldable pub product_of : Kinds → ProductOp → Meaning → Meaning → Out (Unit {0}) Meaning
product_of K op plain plain = given plain
product_of K op (of a g) (of b h) = mapped (of (both op a b)) (needed (grade_by K op g h) tt)
product_of K op (of a g) plain = by_number op (given (of a g)) (given (of a g)) tt
product_of K op plain (of b h) = by_number op (given (of b h)) (given (powered minus_one b h)) tt

-- "sum and compare take the left's"
unfoldable pub binary_of : Kinds → Binary → Meaning → Meaning → Out (Unit {0}) Meaning
binary_of K (combined (summed s)) m n = given m
binary_of K (combined (multiplied op)) m n = product_of K op m n
binary_of K compared m n = given m

-- "scaling (by a number) and absolute keep"; an inexact power of a kind has no meaning
unfoldable pub unary_of : Unary → Meaning → Out (Unit {0}) Meaning
unary_of u plain = given plain
unary_of (exact e) (of a g) = given (powered e a g)
unary_of inexact (of a g) = refused tt
unary_of absolute (of a g) = given (of a g)

-- the calculation's steps: "with no lookup of kinds"
unfoldable pub meanings : Kinds → Machine (Unit {0}) Meaning
meanings K = record { number = plain; kind = λ k. given (meaning K (Kind k)); unary = unary_of; binary = binary_of K }

-- of the whole token list
unfoldable pub calculation : Kinds → List Token → Ended (Unit {0}) Meaning
calculation K toks = walk (meanings K) toks 0 []
