-- The SI rule, of every catalog that compiles. Assumes nothing.
use Prim.Native.Nat.{ℕ}
use mathlib.Core.Path.{◌≡◌}
use mathlib.Core.List.{List}
use Rattle.std.specs.declared.option.Option.TheVariants.{Some}
use Rattle.laws.specs.Out.{given}
use Rattle.dimension.specs.Dimension as D
use Rattle.dimension.specs.declared.dimensions.Dimensions.{Dimensions}
use Rattle.dimension.specs.declared.grade.ProductOp.{ProductOp}
use Rattle.dimension.specs.declared.grade.ProductOp.TheVariants.{Mul, Div, Dot, Wedge}
use Rattle.dimension.proofs.DimensionLaws as L
use Rattle.rules.specs.Kinds.{Kinds, Rows, Graded}
use Rattle.rules.specs.Arithmetic.{joined}
use Rattle.rules.specs.Compile.{Compiled}
use Rattle.rules.specs.Image.{compile_image}
use Rattle.guarantees.specs.Premises.{Guaranteed}
use Rattle.guarantees.specs.Images.{Bytes}
use Rattle.guarantees.specs.SiRule.{JoinsAll, SiRule}
use Rattle.guarantees.proofs.Derived.{Derived, derive_tells}
use Rattle.guarantees.proofs.Products.{product_found}
use Rattle.guarantees.proofs.Powers.{answered_power}
use Rattle.guarantees.proofs.Given.{agreed_some}
use Rattle.guarantees.proofs.Images.{image_guaranteed}

joins : (op : ProductOp) (a b : Dimensions) → D.Declared a → D.Declared b → JoinsAll op a b (joined op a b)
unfolding joined
joins Mul a b h k i l = L.product_adds a b h.twelve k.twelve _ i (L.declared_product a b h k) l
joins Div a b h k i l = L.quotient_subtracts a b h.twelve k.twelve _ i (L.declared_quotient a b h k) l
joins Dot a b h k i l = L.product_adds a b h.twelve k.twelve _ i (L.declared_product a b h k) l
joins Wedge a b h k i l = L.product_adds a b h.twelve k.twelve _ i (L.declared_product a b h k) l

module _ (K : Kinds) (rows : Rows) (c : Guaranteed K rows) where
  derived_joins : (l : ℕ) (op : ProductOp) (r : ℕ) (x : Graded) (a b : Dimensions) → Derived K l op r x → K.dims l ≡ Some a → K.dims r ≡ Some b → JoinsAll op a b x.dims
  derived_joins l op r x a b d p q =
      let z : d.left ≡ a = agreed_some d.has_left p in
      let y : d.right ≡ b = agreed_some d.has_right q in
      rw (d.dims, z, y) (joins op a b (c.declared l a p) (c.declared r b q))

  pub si_rule : SiRule K rows
  si_rule = record {
    derived = λ l op r x a b e p q. derived_joins l op r x a b (derive_tells K l op r x e) p q;
    product = λ s l op r k a b e p q. let f = product_found K rows c s l op r k e in (f.0.dims, f.2.carries.dims, derived_joins l op r f.0 a b f.1 p q);
    power = λ code k j e a h o x q.
        let f = answered_power K rows c code k j e h o x in
        let z : f.0 ≡ a = agreed_some f.1 q in
        (f.2.value, f.2.dims, λ i l. L.power_multiplies a e (c.declared k a q).twelve f.2.value i (rw z at f.2.answers) l);
  }

-- so of the kinds and rows that every image compiles into
pub image_si : (s : List ℕ) → Bytes s → (room : ℕ) (c : Compiled) → compile_image s room ≡ given c → SiRule c.kinds c.rows
image_si s bytes room c e = si_rule c.kinds c.rows (image_guaranteed s bytes room c e)
