-- A number over 3 is no grade, so no product with it has one (`grades_over`). Assumes nothing.
use Prim.Native.Nat.{ℕ, ◌<◌}
use mathlib.Core.Path.{◌≡◌}
use mathlib.Core.Bool.{and-false}
use borrow.Author.Tests.{lt-leb}
use Rattle.dimension.specs.Grade as G
use Rattle.dimension.specs.declared.grade.ProductOp.{ProductOp}
use Rattle.std.specs.declared.option.Option.TheVariants.{None}

pub over_left : (op : ProductOp) (a b : ℕ) → 3 < a → None ≡ G.product op a b
unfolding G.product
over_left op a b h = rw (lt-leb a 3 h)

pub over_right : (op : ProductOp) (a b : ℕ) → 3 < b → None ≡ G.product op a b
unfolding G.product
over_right op a b h = rw (lt-leb b 3 h, and-false)

pub ruleset grades_over = (over_left, over_right)
