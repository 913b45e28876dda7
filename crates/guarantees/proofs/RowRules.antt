-- What the rule of a row tells, once it has given, of each left, operation and right that the row is one for. Assumes nothing.
use Prim.Native.Nat.{ℕ}
use mathlib.Core.Path.{◌≡◌, refl, sym, ◌∙◌}
use mathlib.Core.Bool.{Bool, true, false, not, ◌&&◌, ◌||◌, true≢false}
use Rattle.std.specs.declared.option.Option.TheVariants.{None, Some}
use Rattle.laws.specs.Out.{given}
use Rattle.laws.proofs.Cases.{and_left, and_right}
use Rattle.laws.proofs.Checks.{bind_given, then_given, found_given}
use Rattle.dimension.specs.declared.grade.ProductOp.{ProductOp}
use Rattle.dimension.specs.declared.grade.ProductOp.TheVariants.{Mul, Div, Dot, Wedge}
use Rattle.rules.specs.Kinds.{Kinds, same_op, point, carries}
use Rattle.rules.specs.Arithmetic.{operand, derive, resolve}
use Rattle.rules.specs.Catalog.{Catalog, Row, meant, find, names, covers, row_among, kinds_of}
use Rattle.rules.specs.Compile.{called, several, fresh, row_rule}
use Rattle.guarantees.specs.Premises.{IsRow}
use Rattle.guarantees.proofs.Given.{test_given, several_given, cond_given, not_true, and_apart, some_false, meant_is}
use Rattle.guarantees.proofs.KindRules.{find_below, called_given, in_count}

pub same_op_law : (a b : ProductOp) → same_op a b ≡ true → a ≡ b
same_op_law Mul Mul e = refl
same_op_law Mul Div e = cc
same_op_law Mul Dot e = cc
same_op_law Mul Wedge e = cc
same_op_law Div Mul e = cc
same_op_law Div Div e = refl
same_op_law Div Dot e = cc
same_op_law Div Wedge e = cc
same_op_law Dot Mul e = cc
same_op_law Dot Div e = cc
same_op_law Dot Dot e = refl
same_op_law Dot Wedge e = cc
same_op_law Wedge Mul e = cc
same_op_law Wedge Div e = cc
same_op_law Wedge Dot e = cc
same_op_law Wedge Wedge e = refl

-- ---- a row for left, operation and right: as it stands, or turned
pub data Covered (C : Catalog) (l : ℕ) (op : ProductOp) (r : ℕ) (x : Row) : Type 0 where
  direct : x.op ≡ op → find C x.left ≡ Some l → find C x.right ≡ Some r → Covered C l op r x
  turned : x.commutative ≡ true → x.op ≡ op → find C x.left ≡ Some r → find C x.right ≡ Some l → Covered C l op r x

module _ (C : Catalog) where
  names_tells : (l r : ℕ) (x : Row) → names C l r x ≡ true → (find C x.left ≡ Some l) × (find C x.right ≡ Some r)
  unfolding names
  names_tells l r x e =
      (meant_is l (find C x.left) (and_left (meant l (find C x.left)) _ e), meant_is r (find C x.right) (and_right (meant l (find C x.left)) _ e))

  pub covers_tells : (l : ℕ) (op : ProductOp) (r : ℕ) (x : Row) → covers C l op r x ≡ true → Covered C l op r x
  unfolding covers
  covers_tells l op r x e = go (names C l r x) refl (and_right (same_op x.op op) _ e)
    where
      o : x.op ≡ op
      o = same_op_law x.op op (and_left (same_op x.op op) _ e)

      go : (t : Bool) → names C l r x ≡ t → (names C l r x || (x.commutative && names C r l x)) ≡ true → Covered C l op r x
      go true p f = let n = names_tells l r x p in direct o n.0 n.1
      go false p f =
          let h : (x.commutative && names C r l x) ≡ true = rw p at f in
          let n = names_tells r l x (and_right x.commutative _ h) in
          turned (and_left x.commutative _ h) o n.0 n.1

-- ---- a row that is accepted
pub record Accepted (C : Catalog) (i : ℕ) : Type 0 where
  pub left : ℕ
  pub right : ℕ
  pub result : ℕ
  pub finds_left : find C (C.row i).left ≡ Some left
  pub finds_right : find C (C.row i).right ≡ Some right
  pub finds_result : find C (C.row i).result ≡ Some result
  -- 22
  pub no_quotient : (C.row i).commutative ≡ true → (C.row i).op ≡ Div → ⊥
  -- 23 to 26
  pub row : IsRow (kinds_of C) left (C.row i).op right result
  -- 27
  pub only : row_among C i left (C.row i).op right ≡ None
  pub only_turned : (C.row i).commutative ≡ true → row_among C i right (C.row i).op left ≡ None

div_div : (op : ProductOp) → op ≡ Div → same_op op Div ≡ true
div_div op e = rw e

module _ (C : Catalog) (i : ℕ) where
  abbrev K : Kinds
  K = kinds_of C

  abbrev x : Row
  x = C.row i

  fresh_given : (l r : ℕ) {u : Unit {0}} → fresh C i l r ≡ given u → row_among C i l x.op r ≡ None
  unfolding fresh
  fresh_given l r e = found_given (row_among C i l x.op r) _ e

  pub row_tells : row_rule C i ≡ given tt → Accepted C i
  unfolding row_rule
  row_tells e =
      let q = test_given (x.commutative && same_op x.op Div) _ _ e in
      let l = bind_given (called C i x.left) _ q.1 in
      let r = bind_given (called C i x.right) _ l.2 in
      let k = bind_given (called C i x.result) _ r.2 in
      let p = test_given (point K k.0) _ _ k.2 in
      let d = then_given (operand K k.0) _ p.1 in
      let v = bind_given (derive K l.0 x.op r.0) _ d.2 in
      let m = test_given (not (carries K v.0 k.0)) _ _ v.2 in
      let s = then_given (several C (resolve K l.0 x.op r.0 v.0) v.0) _ m.1 in
      let f = then_given (fresh C i l.0 r.0) _ s.2 in
      let t = several_given C (resolve K l.0 x.op r.0 v.0) v.0 s.1 in
      record {
        left = l.0;
        right = r.0;
        result = k.0;
        finds_left = called_given C i x.left l.1;
        finds_right = called_given C i x.right r.1;
        finds_result = called_given C i x.result k.1;
        no_quotient = λ c o. true≢false (sym (div_div x.op o) ∙ and_apart x.commutative (same_op x.op Div) q.0 c);
        row = record {
          below = in_count C (find_below C x.result (called_given C i x.result k.1));
          no_point = some_false (K.difference k.0) p.0;
          of = v.0;
          derived = v.1;
          carried = not_true _ m.0;
          several = t;
        };
        only = fresh_given l.0 r.0 f.1;
        only_turned = λ c. fresh_given r.0 l.0 (cond_given x.commutative _ c f.2);
      }
