-- Words that agree up to the last kind are read as the same kinds. Assumes nothing.
use Prim.Native.Nat.{ℕ, ◌+◌, ◌*◌, ◌<◌}
use mathlib.Core.Path.{◌≡◌, refl, sym, ◌∙◌, ap, fun_ext}
use mathlib.Core.Bool.{Bool, true, false, cond}
use mathlib.Core.List.{List}
use Rattle.std.specs.declared.option.Option.{Option}
use Rattle.std.specs.declared.option.Option.TheVariants.{None, Some}
use native.Mathlib.Omega.{arith}
use borrow.Author.Tests.{ltb-true, ltb-false}
use lib.Dec.{eqb, ltb}
use Rattle.laws.specs.Ranges.{below}
use Rattle.laws.proofs.Below.{below_in, below_past}
use Rattle.laws.proofs.Tab.{tab_same}
use Rattle.dimension.specs.Dimension as D
use Rattle.dimension.specs.declared.dimensions.Dimensions.{Dimensions}
use Rattle.rules.specs.Table.{word, kinds_in, index_or, exponent_from, dims_from, kinds_of}

-- two rules that agree below n
below_same : {A : Type 0} (n : ℕ) (a : A) (f g : ℕ → A) → ((k : ℕ) → k < n → f k ≡ g k) → below n a f ≡ below n a g
below_same n a f g h = fun_ext (λ k. go k (ltb k n) refl)
  where
    go : (k : ℕ) (b : Bool) → ltb k n ≡ b → below n a f k ≡ below n a g k
    go k true e = let l = ltb-true k n e in below_in n a f k l ∙ h k l ∙ sym (below_in n a g k l)
    go k false e = let l = ltb-false k n e in below_past n a f k l ∙ sym (below_past n a g k l)

module _ (t u : List ℕ) (n : ℕ) (c : kinds_in t ≡ n) (d : kinds_in u ≡ n) (h : (i : ℕ) → i < 16 + 32 * n → word t i ≡ word u i) where
  exponent_same : (k b : ℕ) → k < n → b < 12 → exponent_from t (16 + 32 * k) b ≡ exponent_from u (16 + 32 * k) b
  unfolding exponent_from
  exponent_same k b l m = rw (h (16 + 32 * k + 2 * b) (omega arith), h (16 + 32 * k + 2 * b + 1) (omega arith))

  dims_same : (k : ℕ) → k < n → dims_from t (16 + 32 * k) ≡ dims_from u (16 + 32 * k)
  unfolding dims_from
  dims_same k l = ap D.dimensions (tab_same (exponent_from t (16 + 32 * k)) (exponent_from u (16 + 32 * k)) 12 (λ b m. exponent_same k b l m))

  abbrev dims_in : List ℕ → ℕ → Option Dimensions
  dims_in w k = cond (eqb (word w (16 + 32 * k + 24)) 1) (Some (dims_from w (16 + 32 * k))) None

  given_same : (k : ℕ) → k < n → dims_in t k ≡ dims_in u k
  given_same k l = rw (h (16 + 32 * k + 24) (omega arith), dims_same k l)

  -- a rule of the words of a kind, for the kinds of either
  module _ {A : Type 0} (a : A) (f : List ℕ → ℕ → A) (e : (k : ℕ) → k < n → f t k ≡ f u k) where
    each_same : below (kinds_in t) a (f t) ≡ below (kinds_in u) a (f u)
    each_same = rw (c, d) (below_same n a (f t) (f u) e)

  pub kinds_same : kinds_of t ≡ kinds_of u
  unfolding kinds_of
  kinds_same i = record {
    count = (c ∙ sym d) i;
    dims = each_same None dims_in given_same i;
    grade = each_same 0 (λ w k. word w (16 + 32 * k + 25)) (λ k l. h (16 + 32 * k + 25) (omega arith)) i;
    difference = each_same None (λ w k. index_or (word w (16 + 32 * k + 27))) (λ k l. ap index_or (h (16 + 32 * k + 27) (omega arith))) i;
    rate_of = each_same None (λ w k. index_or (word w (16 + 32 * k + 28))) (λ k l. ap index_or (h (16 + 32 * k + 28) (omega arith))) i;
    rate = each_same None (λ w k. index_or (word w (16 + 32 * k + 29))) (λ k l. ap index_or (h (16 + 32 * k + 29) (omega arith))) i;
    dimensionless = ap index_or (h 2 (omega arith)) i;
    time = ap index_or (h 3 (omega arith)) i;
  }
