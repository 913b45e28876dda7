-- "25 never comes from a lack of kinds": a row refused with 25 names a result that does not carry what was derived. Assumes nothing.
use Prim.Native.Nat.{ℕ}
use mathlib.Core.Path.{◌≡◌, refl, sym, ◌∙◌, ap}
use mathlib.Core.Bool.{Bool, true, false, cond, not, ◌&&◌, true≢false}
use Rattle.std.specs.declared.option.Option.{Option}
use Rattle.std.specs.declared.option.Option.TheVariants.{None, Some}
use Rattle.laws.specs.Out.{Out, given, refused, ◌>>=◌, ◌>>◌, refuse_if}
use Rattle.dimension.specs.declared.dimensions.Dimensions.{Dimensions}
use Rattle.dimension.specs.declared.grade.ProductOp.{ProductOp}
use Rattle.dimension.specs.declared.grade.ProductOp.TheVariants.{Div}
use Rattle.rules.specs.Kinds.{Kinds, Graded, same_op, point, carries}
use Rattle.rules.specs.Refusal.{Refusal, Answer, CommutativeQuotient, Point, InvalidOperationRule}
use Rattle.rules.specs.Arithmetic.{operand, grade_by, graded, derive, resolve}
use Rattle.rules.specs.Catalog.{Id, Catalog, Row, find, row_among, kinds_of}
use Rattle.rules.specs.Compile.{called, several, fresh, row_rule}
use Rattle.guarantees.specs.WellCompiled.{FitsNot}
use Rattle.guarantees.proofs.Given.{some_false}
use Rattle.guarantees.proofs.KindRules.{find_below, called_given, in_count}
use Rattle.guarantees.proofs.ProductLaws.{never_25}

-- ---- a rule that is not what refused has given
module _ {E A B : Type 0} (m : Out E A) {x : E} (other : m ≡ refused x → ⊥) where
  bind_past : (f : A → Out E B) → (m >>= f) ≡ refused x → (a : A) × (m ≡ given a) × (f a ≡ refused x)
  bind_past f e = go m refl
    where
      go : (o : Out E A) → m ≡ o → (a : A) × (m ≡ given a) × (f a ≡ refused x)
      go (given a) p = (a, p, rw p at e)
      go (refused y) p = let q : refused y ≡ refused x = rw p at e in let z : y ≡ x = cc in absurd (other (rw z at p))

  then_past : (n : Out E B) → (m >> n) ≡ refused x → (a : A) × (m ≡ given a) × (n ≡ refused x)
  then_past n e = go m refl
    where
      go : (o : Out E A) → m ≡ o → (a : A) × (m ≡ given a) × (n ≡ refused x)
      go (given a) p = (a, p, rw p at e)
      go (refused y) p = let q : refused y ≡ refused x = rw p at e in let z : y ≡ x = cc in absurd (other (rw z at p))

-- ---- none of these says 25
module _ (x : Graded) where
  abbrev Says25 : {A : Type 0} → Answer A → Type 0
  Says25 m = m ≡ refused (InvalidOperationRule x)

  no_quotient : (t : Bool) (i : ℕ) → Says25 (refuse_if t (CommutativeQuotient i)) → ⊥
  no_quotient true i e = let z : true ≡ false = cc in true≢false z
  no_quotient false i e = let z : true ≡ false = cc in true≢false z

  no_called : (C : Catalog) (i : ℕ) (id : Id) → Says25 (called C i id) → ⊥
  unfolding called
  no_called C i id e = go (find C id) refl
    where
      go : (o : Option ℕ) → find C id ≡ o → ⊥
      go None p = let z : true ≡ false = cc in true≢false z
      go (Some k) p = let z : true ≡ false = cc in true≢false z

  no_point : (t : Bool) (l : ℕ) (op : ProductOp) (r k : ℕ) → Says25 (refuse_if t (Point l op r k)) → ⊥
  no_point true l op r k e = let z : true ≡ false = cc in true≢false z
  no_point false l op r k e = let z : true ≡ false = cc in true≢false z

  no_operand : (K : Kinds) (k : ℕ) → Says25 (operand K k) → ⊥
  unfolding operand
  no_operand K k e = go (K.dims k) refl
    where
      go : (o : Option Dimensions) → K.dims k ≡ o → ⊥
      go None p = let z : true ≡ false = cc in true≢false z
      go (Some d) p = let z : true ≡ false = cc in true≢false z

  no_graded : (K : Kinds) (l : ℕ) (op : ProductOp) (r : ℕ) → Says25 (graded K l op r) → ⊥
  unfolding graded
  no_graded K l op r e = go (grade_by K op (K.grade l) (K.grade r)) refl
    where
      go : (g : Option ℕ) → grade_by K op (K.grade l) (K.grade r) ≡ g → ⊥
      go (Some g) p = let z : true ≡ false = cc in true≢false z
      go None p = let z : true ≡ false = cc in true≢false z

  no_given : {A : Type 0} (a : A) → Says25 (given a) → ⊥
  no_given a e = let z : true ≡ false = cc in true≢false z

  no_derive : (K : Kinds) (l : ℕ) (op : ProductOp) (r : ℕ) → Says25 (derive K l op r) → ⊥
  unfolding derive
  no_derive K l op r e =
      let a = bind_past (operand K l) (no_operand K l) _ e in
      let b = bind_past (operand K r) (no_operand K r) _ a.2 in
      let p = then_past (refuse_if (point K l) (Point l op r l)) (no_point (point K l) l op r l) _ b.2 in
      let q = then_past (refuse_if (point K r) (Point l op r r)) (no_point (point K r) l op r r) _ p.2 in
      let g = bind_past (graded K l op r) (no_graded K l op r) _ q.2 in
      no_given _ g.2

  no_fresh : (C : Catalog) (i l r : ℕ) → Says25 (fresh C i l r) → ⊥
  unfolding fresh
  no_fresh C i l r e = go (row_among C i l (C.row i).op r) refl
    where
      go : (o : Option ℕ) → row_among C i l (C.row i).op r ≡ o → ⊥
      go None p = let z : true ≡ false = cc in true≢false z
      go (Some j) p = let z : true ≡ false = cc in true≢false z

  no_turned : (C : Catalog) (t : Bool) (i l r : ℕ) → Says25 (cond t (fresh C i l r) (given tt)) → ⊥
  no_turned C true i l r e = no_fresh C i l r e
  no_turned C false i l r e = no_given _ e

-- ---- so it is said where the result does not carry it
module _ (C : Catalog) (i : ℕ) (x : Graded) where
  abbrev K : Kinds
  K = kinds_of C

  abbrev w : Row
  w = C.row i

  no_25 : (t : Bool) (u : Unit {0}) (y : Refusal) → refuse_if t y ≡ given u → t ≡ false
  no_25 true u y e = cc
  no_25 false u y e = refl

  pub fits_not : row_rule C i ≡ refused (InvalidOperationRule x) → FitsNot C i x
  unfolding row_rule
  fits_not e =
      let q = then_past (refuse_if (w.commutative && same_op w.op Div) (CommutativeQuotient i)) (no_quotient x (w.commutative && same_op w.op Div) i) _ e in
      let l = bind_past (called C i w.left) (no_called x C i w.left) _ q.2 in
      let r = bind_past (called C i w.right) (no_called x C i w.right) _ l.2 in
      let k = bind_past (called C i w.result) (no_called x C i w.result) _ r.2 in
      let p = then_past (refuse_if (point K k.0) (Point l.0 w.op r.0 k.0)) (no_point x (point K k.0) l.0 w.op r.0 k.0) _ k.2 in
      let d = then_past (operand K k.0) (no_operand x K k.0) _ p.2 in
      let v = bind_past (derive K l.0 w.op r.0) (no_derive x K l.0 w.op r.0) _ d.2 in
      let f = called_given C i w.result k.1 in
      let o = unfit l.0 r.0 k.0 v.0 (carries K v.0 k.0) refl f (some_false (K.difference k.0) (no_25 _ _ _ p.1)) v.2 in
      record {
        left = l.0;
        right = r.0;
        result = k.0;
        finds_left = called_given C i w.left l.1;
        finds_right = called_given C i w.right r.1;
        finds_result = f;
        derived = v.1 ∙ ap given o.0;
        other = ap (λ (y : Graded). carries K y k.0) (sym o.0) ∙ o.1;
      }
    where
      unfit : (l r k : ℕ) (v : Graded) (t : Bool) → carries K v k ≡ t → find C w.result ≡ Some k → K.difference k ≡ None
          → (refuse_if (not (carries K v k)) (InvalidOperationRule v) >> (several C (resolve K l w.op r v) v >> (fresh C i l r >> cond w.commutative (fresh C i r l) (given tt)))) ≡ refused (InvalidOperationRule x)
          → (v ≡ x) × (carries K v k ≡ false)
      unfit l r k v false c f n e = let q : refused (InvalidOperationRule v) ≡ refused (InvalidOperationRule x) = rw c at e in let z : v ≡ x = cc in (z, c)
      unfit l r k v true c f n e =
          let s = then_past (several C (resolve K l w.op r v) v) (never_25 K l w.op r v k (in_count C (find_below C w.result f)) n c C x) _ (rw c at e) in
          let g = then_past (fresh C i l r) (no_fresh x C i l r) _ s.2 in
          absurd (no_turned x C w.commutative i r l g.2)
