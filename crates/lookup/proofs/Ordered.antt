-- What is asked in turn, one law a return: a test that is passed or refused (`indexing`), two kinds (`combining`), one kind (`raising`). Assumes
-- nothing.
use Prim.Native.Nat.{ℕ, ◌<◌, ◌≤◌}
use mathlib.Core.Path.{◌≡◌, ap}
use mathlib.Core.Bool.{true, false, true≢false}
use mathlib.Core.List.{List, []}
use Rattle.std.specs.declared.option.Option.{Option}
use Rattle.std.specs.declared.option.Option.TheVariants.{None, Some}
use Rattle.std.specs.declared.result.Result.{Result}
use Rattle.std.specs.declared.result.Result.TheVariants.{Ok, Err}
use Rattle.std.specs.Option.{option_map, ok_or}
use lib.IntN.{ℤ}
use borrow.Author.Tests.{lt-ltb, le-ltb}
use Rattle.laws.specs.Out.{given, refused, ◌>>=◌, ◌>>◌}
use Rattle.dimension.specs.Fraction as F
use Rattle.dimension.specs.declared.rational.Rational.{Rational}
use Rattle.rules.specs.Kinds.{Kinds}
use Rattle.rules.specs.Refusal as why
use Rattle.rules.specs.Arithmetic as rule
use Rattle.rules.specs.Table.{kinds_of, rows_of}
use Rattle.rules.specs.Lookup as lone
use Rattle.error.specs.Shown.{op_as, op_of, error_of}
use Rattle.error.specs.declared.cause.Error.{Error}
use Rattle.error.specs.declared.cause.Error.TheVariants as cause
use Rattle.error.specs.declared.op.Op.{Op}
use Rattle.registry.specs.Shown.{looked}
use Rattle.registry.proofs.Coded.{op_read, op_unread}
use Rattle.lookup.specs.Shown.{tested, lent, lent_combine, lent_power, indexed_combine, indexed_power, power_by, exponent_of}
use Rattle.lookup.specs.declared.lone.Exponent.{Exponent}
use Rattle.lookup.specs.declared.lone.Exponent.TheVariants as exponent

-- ---- 41
module _ (K : Kinds) (k : ℕ) {c : ℕ} (e : c ≡ K.count) where
  pub index_past : c ≤ k → Err (cause.NoKind k) ≡ tested (rule.indexed K k)
  unfolding tested rule.indexed
  index_past h = rw (← e, le-ltb k c h)

  pub index_in : k < c → Ok tt ≡ tested (rule.indexed K k)
  unfolding tested rule.indexed
  index_in h = rw (← e, lt-ltb k c h)

pub ruleset indexing = (index_past, index_in)

-- ---- after a test, a rule
module _ (m : why.Answer (Unit {0})) (n : why.Answer ℕ) where
  test_refused : {e : Error} → Err e ≡ tested m → Err e ≡ looked (m >> n)
  unfolding tested looked
  test_refused {e} p = go m p
    where
      go : (m : why.Answer (Unit {0})) → Err e ≡ tested m → Err e ≡ looked (m >> n)
      go (given u) q = let z : true ≡ false = cc in absurd (true≢false z)
      go (refused x) q = let z : e ≡ error_of x = cc in ap Err z

  test_passed : {u : Unit {0}} {v : Result ℕ Error} → Ok u ≡ tested m → v ≡ looked n → v ≡ looked (m >> n)
  unfolding tested
  test_passed {u} {v} p h = go m p
    where
      go : (m : why.Answer (Unit {0})) → Ok u ≡ tested m → v ≡ looked (m >> n)
      go (given w) q = h
      go (refused x) q = let z : true ≡ false = cc in absurd (true≢false z)

-- ---- two kinds
module _ (t rows twins : List ℕ) (code l r : ℕ) where
  pub combine_unlent : {e : Error} → Err e ≡ tested (lent t rows twins) → Err e ≡ looked (lent_combine t rows twins code l r)
  unfolding lent_combine
  combine_unlent p = test_refused (lent t rows twins) (indexed_combine (kinds_of t) (rows_of rows) code l r) p

  module _ {u : Unit {0}} (a : Ok u ≡ tested (lent t rows twins)) {o : Option Op} (f : o ≡ option_map op_as (rule.op_by code)) where
    onward : {v : Result ℕ Error} → v ≡ looked (indexed_combine (kinds_of t) (rows_of rows) code l r) → v ≡ looked (lent_combine t rows twins code l r)
    unfolding lent_combine
    onward h = test_passed (lent t rows twins) (indexed_combine (kinds_of t) (rows_of rows) code l r) a h

    pub combine_unread : {x : Error} → Err x ≡ ok_or o (cause.Malformed 0) → Err x ≡ looked (lent_combine t rows twins code l r)
    unfolding looked indexed_combine
    combine_unread p = let z = op_unread (cause.Malformed 0) (rule.op_by code) (rw f at p) in onward (rw (z.0, z.1))

    module _ {op : Op} (p : Ok op ≡ ok_or o (cause.Malformed 0)) where
      read : rule.op_by code ≡ Some (op_of op)
      read = op_read (cause.Malformed 0) (rule.op_by code) (rw f at p)

      by_op : {v : Result ℕ Error} → v ≡ looked (rule.indexed (kinds_of t) l >> (rule.indexed (kinds_of t) r >> rule.combine (kinds_of t) (rows_of rows) (op_of op) l r)) → v ≡ looked (lent_combine t rows twins code l r)
      unfolding indexed_combine
      by_op h = onward (rw read h)

      pub combine_left : {e : Error} → Err e ≡ tested (rule.indexed (kinds_of t) l) → Err e ≡ looked (lent_combine t rows twins code l r)
      combine_left b = by_op (test_refused (rule.indexed (kinds_of t) l) _ b)

      module _ {w : Unit {0}} (b : Ok w ≡ tested (rule.indexed (kinds_of t) l)) where
        pub combine_right : {e : Error} → Err e ≡ tested (rule.indexed (kinds_of t) r) → Err e ≡ looked (lent_combine t rows twins code l r)
        combine_right d = by_op (test_passed (rule.indexed (kinds_of t) l) _ b (test_refused (rule.indexed (kinds_of t) r) _ d))

        pub combine_in : {x : Unit {0}} {v : Result ℕ Error} → Ok x ≡ tested (rule.indexed (kinds_of t) r) → v ≡ looked (rule.combine (kinds_of t) (rows_of rows) (op_of op) l r) → v ≡ looked (lent_combine t rows twins code l r)
        combine_in d h = by_op (test_passed (rule.indexed (kinds_of t) l) _ b (test_passed (rule.indexed (kinds_of t) r) _ d h))

pub ruleset combining = (combine_unlent, combine_unread, combine_left, combine_right, combine_in)

-- ---- one kind
module _ (K : Kinds) (k : ℕ) where
  module _ (num : ℤ) (den : ℕ) {o : Option Rational} (f : o ≡ F.answer num den) where
    pub exact_unread : {x : Error} → Err x ≡ ok_or o (cause.Malformed 0) → Err x ≡ looked (power_by K k (lone.exact num den))
    unfolding looked power_by
    exact_unread {x} p = go (F.answer num den) (rw f at p)
      where
        go : (q : Option Rational) → Err x ≡ ok_or q (cause.Malformed 0) → Err x ≡ looked (elim q [ Some e ↦ given (Some e) | None ↦ refused (why.Malformed 0) ] >>= λ e. indexed_power K 8 k e)
        go (Some e) z = let y : true ≡ false = cc in absurd (true≢false y)
        go None z = let y : x ≡ cause.Malformed 0 = cc in ap Err y

    module _ {e : Rational} (p : Ok e ≡ ok_or o (cause.Malformed 0)) where
      by_exact : {v : Result ℕ Error} → v ≡ looked (indexed_power K 8 k (Some e)) → v ≡ looked (power_by K k (lone.exact num den))
      unfolding power_by
      by_exact {v} h = go (F.answer num den) (rw f at p)
        where
          go : (q : Option Rational) → Ok e ≡ ok_or q (cause.Malformed 0) → v ≡ looked (elim q [ Some e ↦ given (Some e) | None ↦ refused (why.Malformed 0) ] >>= λ e. indexed_power K 8 k e)
          go (Some d) z = let y : e ≡ d = cc in rw (← y) h
          go None z = let y : true ≡ false = cc in absurd (true≢false y)

      pub exact_past : {x : Error} → Err x ≡ tested (rule.indexed K k) → Err x ≡ looked (power_by K k (lone.exact num den))
      unfolding indexed_power
      exact_past b = by_exact (test_refused (rule.indexed K k) (rule.power K 8 k (Some e)) b)

      pub exact_in : {u : Unit {0}} {v : Result ℕ Error} → Ok u ≡ tested (rule.indexed K k) → v ≡ looked (rule.power K 8 k (Some e)) → v ≡ looked (power_by K k (lone.exact num den))
      unfolding indexed_power
      exact_in b h = by_exact (test_passed (rule.indexed K k) (rule.power K 8 k (Some e)) b h)

  pub inexact_past : {x : Error} → Err x ≡ tested (rule.indexed K k) → Err x ≡ looked (power_by K k lone.inexact)
  unfolding power_by indexed_power
  inexact_past b = test_refused (rule.indexed K k) (rule.power K 9 k None) b

  pub inexact_in : {u : Unit {0}} {v : Result ℕ Error} → Ok u ≡ tested (rule.indexed K k) → v ≡ looked (rule.power K 9 k None) → v ≡ looked (power_by K k lone.inexact)
  unfolding power_by indexed_power
  inexact_in b h = test_passed (rule.indexed K k) (rule.power K 9 k None) b h

module _ (t twins : List ℕ) (k : ℕ) where
  pub power_unlent : (x : Exponent) {e : Error} → Err e ≡ tested (lent t [] twins) → Err e ≡ looked (lent_power t twins k (exponent_of x))
  unfolding lent_power
  power_unlent x p = test_refused (lent t [] twins) (power_by (kinds_of t) k (exponent_of x)) p

  module _ {x : Exponent} {u : Unit {0}} (a : Ok u ≡ tested (lent t [] twins)) where
    pub power_exact : {num : ℤ} {den : ℕ} {v : Result ℕ Error} → x ≡ exponent.Exact num den → v ≡ looked (power_by (kinds_of t) k (lone.exact num den)) → v ≡ looked (lent_power t twins k (exponent_of x))
    unfolding lent_power
    power_exact {num} {den} p h = rw p (test_passed (lent t [] twins) (power_by (kinds_of t) k (lone.exact num den)) a h)

    pub power_inexact : {v : Result ℕ Error} → x ≡ exponent.Inexact → v ≡ looked (power_by (kinds_of t) k lone.inexact) → v ≡ looked (lent_power t twins k (exponent_of x))
    unfolding lent_power
    power_inexact p h = rw p (test_passed (lent t [] twins) (power_by (kinds_of t) k lone.inexact) a h)

pub ruleset raising = (exact_unread, exact_past, exact_in, inexact_past, inexact_in, power_unlent, power_exact, power_inexact)
