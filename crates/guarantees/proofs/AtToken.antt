-- At a product of two kinds a formula answers as the lookup of these two does: refused there exactly where the lookup is. Assumes nothing.
use Prim.Native.Nat.{ℕ, suc, ◌+◌}
use mathlib.Core.Path.{◌≡◌, refl, sym, ◌∙◌, ap}
use mathlib.Core.Bool.{true, true≢false}
use mathlib.Core.List.{List, [], ◌∷◌, ◌++◌}
use mathlib.Core.Logic.{◌↔◌}
use native.Mathlib.Omega.{arith}
use native.Mathlib.Nat.{add-zero}
use lib.Dec.{ltb}
use lib.ListN.{length}
use borrow.Author.Tests.{le-ltb}
use Rattle.laws.specs.Out.{given, refused}
use Rattle.dimension.specs.declared.grade.ProductOp.{ProductOp}
use Rattle.rules.specs.Kinds.{Kinds, Rows}
use Rattle.rules.specs.Refusal.{Refusal, Answer}
use Rattle.rules.specs.Arithmetic.{product, combine}
use Rattle.rules.specs.Formula.{Token, Term, Kind, Ended, stopped, two_kinds, binary_term, terms, walk, formula}
use Rattle.guarantees.specs.AtToken.{times_token, AtProduct}
use Rattle.guarantees.proofs.Grows.{later}
use Rattle.guarantees.proofs.Reached.{goes_on}

module _ (K : Kinds) (rows : Rows) where
  -- what follows from the lookup's answer
  abbrev pub from : Answer ℕ → List Token → ℕ → List Term → Ended Refusal Term
  from (given k) rest at s = walk (terms K rows) rest (suc at) (Kind k ∷ s)
  from (refused x) rest at s = stopped at x

  from_step : (op : ProductOp) (l r : ℕ) (rest : List Token) (at : ℕ) (s : List Term)
      → walk (terms K rows) (times_token op ∷ rest) at (Kind r ∷ Kind l ∷ s) ≡ from (product K rows l op r) rest at s
  unfolding walk terms binary_term two_kinds combine
  from_step op l r rest at s = go (product K rows l op r) refl
    where
      go : (m : Answer ℕ) → product K rows l op r ≡ m → walk (terms K rows) (times_token op ∷ rest) at (Kind r ∷ Kind l ∷ s) ≡ from (product K rows l op r) rest at s
      go (given k) e = rw (walk, e)
      go (refused x) e = rw (walk, e)

  module _ (before : List Token) (l : ℕ) (op : ProductOp) (r : ℕ) (rest : List Token) (s : List Term) (h : AtProduct K rows before l op r rest s) where
    pub at_token : formula K rows (before ++ (times_token op ∷ rest)) ≡ from (product K rows l op r) rest (length before) s
    unfolding formula
    at_token =
        rw h.well_formed
        (goes_on (terms K rows) before (times_token op ∷ rest) 0 [] (Kind r ∷ Kind l ∷ s) h.held
        ∙ from_step op l r rest (length before + 0) s
        ∙ ap (λ (n : ℕ). from (product K rows l op r) rest n s) (add-zero (length before)))

    pub refused_there : (x : Refusal) → (formula K rows (before ++ (times_token op ∷ rest)) ≡ stopped (length before) x) ↔ (product K rows l op r ≡ refused x)
    refused_there x = (λ e. there (product K rows l op r) refl (sym at_token ∙ e), λ e. at_token ∙ rw e)
      where
        there : (m : Answer ℕ) → product K rows l op r ≡ m → from (product K rows l op r) rest (length before) s ≡ stopped (length before) x → product K rows l op r ≡ refused x
        there (refused y) p e = let z : stopped (length before) y ≡ stopped (length before) x = rw p at e in let w : y ≡ x = cc in p ∙ ap refused w
        there (given k) p e =
            let z : walk (terms K rows) rest (suc (length before)) (Kind k ∷ s) ≡ stopped (length before) x = rw p at e in
            let w : ltb (length before) (length before) ≡ true = rw z at (later (terms K rows) rest (length before) (suc (length before)) (Kind k ∷ s) (omega arith)) in
            absurd (true≢false (sym w ∙ le-ltb (length before) (length before) (omega arith)))
