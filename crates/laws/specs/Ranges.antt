-- The numbers below n: the first that passes a test, whether all pass, those that pass, what is added up or listed over them.
use Rattle.std.specs.Prelude.{ℕ, zero, suc, ◌+◌, Bool, true, cond, ◌&&◌, List, [], ◌∷◌, ◌++◌, ltb, length, drop}
use Rattle.std.specs.declared.option.Option.{Option}
use Rattle.std.specs.declared.option.Option.TheVariants.{None, Some}
use Rattle.laws.specs.Options.{or_else}

-- the first number below n that passes the test
unfoldable pub first : (ℕ → Bool) → ℕ → Option ℕ
first test zero = None
first test (suc n) = or_else (first test n) (cond (test n) (Some n) None)

-- the first of the n numbers from p on that passes the test
unfoldable pub first_from : (ℕ → Bool) → ℕ → ℕ → Option ℕ
first_from test p zero = None
first_from test p (suc n) = or_else (first_from test p n) (cond (test (p + n)) (Some (p + n)) None)

-- each number below n passes the test
unfoldable pub all : (ℕ → Bool) → ℕ → Bool
all test zero = true
all test (suc n) = all test n && test n

-- the numbers below n that pass the test, ascending
unfoldable pub picked : (ℕ → Bool) → ℕ → List ℕ
picked test zero = []
picked test (suc n) = cond (test n) (picked test n ++ (n ∷ [])) (picked test n)

-- f 0 + .. + f (n - 1)
unfoldable pub sum : (ℕ → ℕ) → ℕ → ℕ
sum f zero = 0
sum f (suc n) = sum f n + f n

module _ {A : Type 0} where
  -- f 0, .., f (n - 1)
  unfoldable pub tab : (ℕ → A) → ℕ → List A
  tab f zero = []
  tab f (suc n) = tab f n ++ (f n ∷ [])

  -- f below n, and a from there on
  unfoldable pub below : ℕ → A → (ℕ → A) → ℕ → A
  below n a f k = cond (ltb k n) (f k) a

  -- the list p written over the front of the list t; what t has past it stays
  abbrev pub overlay : List A → List A → List A
  overlay p t = p ++ drop (length p) t
