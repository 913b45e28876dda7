-- Rows that extend others, over any kinds: what a formula was given stays; of the refusals only a 44 is lifted, by a row for that very left,
-- operation and right. Assumes nothing.
use Prim.Native.Nat.{ℕ}
use mathlib.Core.Path.{◌≡◌, refl, sym, ◌∙◌}
use mathlib.Core.Bool.{false, true≢false}
use mathlib.Core.List.{List, [], ◌∷◌}
use Rattle.std.specs.declared.option.Option.{Option}
use Rattle.std.specs.declared.option.Option.TheVariants.{None, Some}
use lib.IntN.{pos, neg_ℤ}
use Rattle.laws.specs.Options.{found}
use Rattle.laws.specs.Out.{given, refused, ◌>>=◌, mapped, known}
use Rattle.dimension.specs.Fraction as F
use Rattle.dimension.specs.declared.grade.ProductOp.{ProductOp}
use Rattle.rules.specs.Kinds.{Kinds, Rows, Graded}
use Rattle.rules.specs.Refusal.{Refusal, Answer, UnresolvedTwin, NoProductKind}
use Rattle.rules.specs.Arithmetic.{Op, summed, multiplied, derive, resolve, settle, product, agree, sum, scaled, power, combine}
use Rattle.rules.specs.Formula.{Token, Binary, combined, compared, Term, Number, Kind, with_number, two_kinds, unary_term, binary_term, kind_term, terms, malformed, walk, malformed_at, formula}
use Rattle.guarantees.specs.Larger.{Extends, lifts}
use Rattle.guarantees.proofs.Grows.{GrownOut, Grown, Grows, walk_grown}
use Rattle.guarantees.proofs.Calm.{Calm, calm_mapped, stays, derive_calm, agree_calm, sum_calm, by_number_calm, number_by_calm, unary_calm, kind_calm}

module _ (K : Kinds) (small large : Rows) (more : Extends small large) where
  -- ---- the product alone reads a row, and of all rows this one
  row_grown : (l : ℕ) (op : ProductOp) (r : ℕ) (ks : List ℕ)
      → GrownOut (lifts large) (known (small l op r) (refused (UnresolvedTwin l op r ks))) (known (large l op r) (refused (UnresolvedTwin l op r ks)))
  row_grown l op r ks = go (small l op r) refl (large l op r) refl
    where
      go : (s : Option ℕ) → small l op r ≡ s → (t : Option ℕ) → large l op r ≡ t
          → GrownOut (lifts large) (known s (refused (UnresolvedTwin l op r ks))) (known t (refused (UnresolvedTwin l op r ks)))
      go (Some k) p t q = rw (sym q ∙ more l op r k p)
      go None p (Some m) q = rw q (λ e. absurd (true≢false e), λ e. (m, refl))
      go None p None q = rw q (λ e. refl, λ e. absurd (true≢false (sym e)))

  settle_grown : (o : List ℕ) (x : Refusal) (f g : List ℕ → Answer ℕ) → lifts large x ≡ false → ((ks : List ℕ) → GrownOut (lifts large) (f ks) (g ks))
      → GrownOut (lifts large) (settle o (refused x) given f) (settle o (refused x) given g)
  settle_grown (k ∷ []) x f g c h = refl
  settle_grown (k ∷ m ∷ ks) x f g c h = h (k ∷ m ∷ ks)
  settle_grown [] x f g c h = (λ e. refl, λ e. absurd (true≢false (sym e ∙ c)))

  bind_grown : (m : Answer Graded) (f g : Graded → Answer ℕ) → Calm large m → ((x : Graded) → GrownOut (lifts large) (f x) (g x)) → GrownOut (lifts large) (m >>= f) (m >>= g)
  bind_grown (given x) f g c h = h x
  bind_grown (refused y) f g c h = (λ e. refl, λ e. absurd (true≢false (sym e ∙ c)))

  pub product_grown : (l : ℕ) (op : ProductOp) (r : ℕ) → GrownOut (lifts large) (product K small l op r) (product K large l op r)
  unfolding product
  product_grown l op r =
      bind_grown (derive K l op r) _ _ (derive_calm large K l op r)
      (λ x. settle_grown (resolve K l op r x) (NoProductKind x) _ _ refl (row_grown l op r))

  -- ---- each step
  combine_grown : (o : Op) (l r : ℕ) → GrownOut (lifts large) (combine K small o l r) (combine K large o l r)
  unfolding combine
  combine_grown (summed s) l r = stays large (sum K s l r) (sum_calm large K s l r)
  combine_grown (multiplied op) l r = product_grown l op r

  two_grown : (b : Binary) (l r : ℕ) → GrownOut (lifts large) (two_kinds K small b l r) (two_kinds K large b l r)
  unfolding two_kinds
  two_grown (combined o) l r = combine_grown o l r
  two_grown compared l r = stays large (agree l r l) (agree_calm large K l r l)

  mapped_grown : (m n : Answer ℕ) → GrownOut (lifts large) m n → GrownOut (lifts large) (mapped Kind m) (mapped Kind n)
  mapped_grown (given k) n h = rw h
  mapped_grown (refused x) n h = (λ e. rw (h.0 e), λ e. (Kind (h.1 e).0, rw (h.1 e).1))

  binary_grown : (b : Binary) (x y : Term) → GrownOut (lifts large) (binary_term K small b x y) (binary_term K large b x y)
  unfolding binary_term
  binary_grown b Number Number = refl
  binary_grown b (Kind l) (Kind r) = mapped_grown (two_kinds K small b l r) (two_kinds K large b l r) (two_grown b l r)
  binary_grown b (Kind k) Number =
      let m = with_number K b k (scaled K 5 k) in
      stays large (mapped Kind m) (calm_mapped large Kind m (by_number_calm large K b k))
  binary_grown b Number (Kind k) =
      let m = with_number K b k (power K 5 k (Some (F.ratio (neg_ℤ (pos 1)) 1))) in
      stays large (mapped Kind m) (calm_mapped large Kind m (number_by_calm large K b k (F.ratio (neg_ℤ (pos 1)) 1)))

  pub grows : Grows (lifts large) (terms K small) (terms K large)
  unfolding terms
  grows = record {
    number = refl;
    kind = λ k. stays large (kind_term K k) (kind_calm large K k);
    unary = λ u x. stays large (unary_term K u x) (unary_calm large K u x);
    binary = binary_grown;
  }

  -- ---- the whole token list
  pub formula_grown : (toks : List Token) → Grown (lifts large) (formula K small toks) (formula K large toks)
  unfolding formula
  formula_grown toks = go (malformed_at toks)
    where
      go : (o : Option ℕ) → Grown (lifts large) (found o malformed (walk (terms K small) toks 0 [])) (found o malformed (walk (terms K large) toks 0 []))
      go None = walk_grown (lifts large) (terms K small) (terms K large) grows toks 0 []
      go (Some p) = refl
