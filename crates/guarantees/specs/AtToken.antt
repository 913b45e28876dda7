-- A formula where it comes to a product of two kinds.
use Rattle.std.specs.Prelude.{ℕ, suc, ◌≡◌, List, [], ◌∷◌, ◌++◌, length}
use Rattle.std.specs.declared.option.Option.TheVariants.{None, Some}
use Rattle.dimension.specs.declared.grade.ProductOp.{ProductOp}
use Rattle.rules.specs.Kinds.{Kinds, Rows}
use Rattle.rules.specs.Arithmetic.{multiplied}
use Rattle.rules.specs.Formula.{Token, binary, combined, Term, Kind, terms, walk, malformed_at, formula}
use Rattle.guarantees.specs.Reached.{reached}

abbrev pub times_token : ProductOp → Token
times_token op = binary (combined (multiplied op))

-- the tokens `before`, then the product, then `rest`: no 50, and the kinds l and r are on top of what is held
pub record AtProduct (K : Kinds) (rows : Rows) (before : List Token) (l : ℕ) (op : ProductOp) (r : ℕ) (rest : List Token) (below : List Term) : Type 0 where
  pub well_formed : malformed_at (before ++ (times_token op ∷ rest)) ≡ None
  pub held : reached (terms K rows) before [] ≡ Some (Kind r ∷ Kind l ∷ below)

-- "lifted at its token": token p is that product of l and r, which both catalogs come to with the same terms held; the larger goes on from it with
-- the kind k of its row in their place
pub record LiftedTo (K : Kinds) (small large : Rows) (toks : List Token) (p l : ℕ) (op : ProductOp) (r k : ℕ) : Type 0 where
  pub before : List Token
  pub rest : List Token
  pub below : List Term
  pub splits : toks ≡ before ++ (times_token op ∷ rest)
  pub place : length before ≡ p
  pub held : reached (terms K small) before [] ≡ Some (Kind r ∷ Kind l ∷ below)
  pub held_too : reached (terms K large) before [] ≡ Some (Kind r ∷ Kind l ∷ below)
  pub goes_on : formula K large toks ≡ walk (terms K large) rest (suc p) (Kind k ∷ below)
