-- The rule of a row by what its ids name, over kinds K and the rows R in force before it; and from a step of it on.
use Rattle.std.specs.Prelude.{ℕ, Bool, cond, not, ◌&&◌, List}
use Rattle.std.specs.declared.option.Option.{Option}
use Rattle.std.specs.declared.option.Option.TheVariants.{None, Some}
use Rattle.std.specs.declared.result.Result.{Result}
use Rattle.laws.specs.Options.{found}
use Rattle.laws.specs.Out.{given, refused, ◌>>=◌, ◌>>◌, refuse_if, refuse_found}
use Rattle.dimension.specs.declared.grade.ProductOp.{ProductOp}
use Rattle.dimension.specs.declared.grade.ProductOp.TheVariants.{Div}
use Rattle.rules.specs.Kinds.{Kinds, Rows, Graded, same_op, point, carries}
use Rattle.rules.specs.Refusal as rule
use Rattle.rules.specs.Refusal.{CommutativeQuotient, Point, InvalidOperationRule, DerivedOperationRule, ConflictingOperationRule}
use Rattle.rules.specs.Arithmetic.{operand, derive, resolve, settle}
use Rattle.rules.specs.Catalog.{Catalog}
use Rattle.rules.specs.Compile.{Checked, called}
use Rattle.error.specs.Shown.{shown}
use Rattle.error.specs.declared.fault.Fault.{Fault}
use Rattle.written.specs.declared.rows.Named.{Named}
use Rattle.compile.specs.declared.rows.Row.{Row}

-- a row of this operation, marked commutative or not, by what its ids name; none where one of them names nothing
unfoldable pub row_by_names : Named → ProductOp → Bool → Option Row
row_by_names n op c =
    found n.left (λ l. found n.right (λ r. found n.result (λ k. Some (record { left = l; op = op; right = r; result = k; commutative = c })) None) None) None

-- 22, 12: row i of C by the kinds that its ids name
unfoldable pub row_asked : Catalog → ℕ → rule.Answer Row
row_asked C i = do
  refuse_if ((C.row i).commutative && same_op (C.row i).op Div) (CommutativeQuotient i)
  l ← called C i (C.row i).left
  r ← called C i (C.row i).right
  k ← called C i (C.row i).result
  given (record { left = l; op = (C.row i).op; right = r; result = k; commutative = (C.row i).commutative })

-- the same as code answers it
unfoldable pub row_shown : Catalog → ℕ → Result Row Fault
row_shown C i = shown (λ x. x) (rule.at i (row_asked C i))

-- 27
unfoldable pub fresh_in : Rows → ℕ → ProductOp → ℕ → Checked
fresh_in R l op r = refuse_found (R l op r) (λ k. ConflictingOperationRule l r)

unfoldable pub pair_fresh : Rows → Row → Checked
pair_fresh R x = do
  fresh_in R x.left x.op x.right
  cond x.commutative (fresh_in R x.right x.op x.left) (given tt)

-- 26, 27
abbrev pub or_several : List ℕ → Graded → Checked → Checked
or_several ks x m = settle ks (refused (InvalidOperationRule x)) (λ k. refused (DerivedOperationRule k)) (λ more. m)

unfoldable pub row_several : Kinds → Rows → Row → Graded → Checked
row_several K R x g = or_several (resolve K x.left x.op x.right g) g (pair_fresh R x)

-- 25, 26, 27
unfoldable pub row_fits : Kinds → Rows → Row → Graded → Checked
row_fits K R x g = do
  refuse_if (not (carries K g x.result)) (InvalidOperationRule g)
  row_several K R x g

-- the derivation's refusals, then 25
unfoldable pub row_derived : Kinds → Rows → Row → Checked
row_derived K R x = do
  g ← derive K x.left x.op x.right
  row_fits K R x g

-- 23, 19 for the result
unfoldable pub row_named : Kinds → Rows → Row → Checked
row_named K R x = do
  refuse_if (point K x.result) (Point x.left x.op x.right x.result)
  operand K x.result
  row_derived K R x
