-- What a formula's shape tells of its call: a malformed one is refused at its place, and any other comes to what its tokens come to.
-- Assumes nothing.
use Prim.Native.Nat.{ℕ, ◌%◌, ◌≤◌}
use mathlib.Core.Path.{◌≡◌, refl, sym, ◌∙◌}
use mathlib.Core.Bool.{Bool, true, false, cond, ◌&&◌, true≢false}
use mathlib.Core.List.{List, []}
use Rattle.std.specs.declared.option.Option.{Option}
use Rattle.std.specs.declared.option.Option.TheVariants.{None, Some}
use borrow.Author.Tests.{leb-true}
use lib.Dec.{eqb, leb}
use lib.ListN.{length}
use Rattle.laws.specs.Options.{found}
use Rattle.laws.proofs.Cases.{and_right}
use Rattle.rules.specs.Kinds.{Kinds, Rows}
use Rattle.rules.specs.Formula.{malformed, malformed_at, walk, terms, formula}
use Rattle.rules.specs.Token.{tokens_in, good_length}
use Rattle.rules.specs.Call.{ending, formula_in}
use Rattle.tokens.specs.Shown.{malformed_in}

module _ (s : List ℕ) {v : Option ℕ} where
  -- 1 to 128 tokens, none of them out of place
  pub fine_told : v ≡ None → v ≡ (malformed_in s) → (good_length s ≡ true) × (malformed_at (tokens_in s) ≡ None)
  unfolding malformed_in
  fine_told p e = go (good_length s) (sym e ∙ p)
    where
      go : (b : Bool) → cond b (malformed_at (tokens_in s)) (Some 0) ≡ None → (b ≡ true) × (malformed_at (tokens_in s) ≡ None)
      go true h = (refl, h)
      go false h = let z : true ≡ false = cc in absurd (true≢false z)

  pub fine_length : v ≡ None → v ≡ (malformed_in s) → length s ≤ 1536
  unfolding good_length
  fine_length p e = leb-true (length s) 1536 (and_right (eqb (length s % 12) 0 && leb 12 (length s)) _ (fine_told p e).0)

  module _ (K : Kinds) (rows : Rows) where
    pub fine_formula : v ≡ None → v ≡ (malformed_in s) → formula_in K rows s ≡ ending (walk (terms K rows) (tokens_in s) 0 [])
    unfolding formula_in formula
    fine_formula p e = let h = fine_told p e in rw (h.0, h.1)

    pub bad_formula : {p : ℕ} → v ≡ Some p → v ≡ (malformed_in s) → formula_in K rows s ≡ ending (malformed p)
    unfolding formula_in formula malformed_in
    bad_formula {p} q e = go (good_length s) (sym e ∙ q)
      where
        go : (b : Bool) → cond b (malformed_at (tokens_in s)) (Some 0) ≡ Some p → ending (cond b (found (malformed_at (tokens_in s)) malformed (walk (terms K rows) (tokens_in s) 0 [])) (malformed 0)) ≡ ending (malformed p)
        go true h = rw h
        go false h = cc
