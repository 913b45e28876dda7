-- The laws of grades: the rule at every entry of a table, by one test that is computed; what is answered is a grade; which products may be turned.
-- Assumes nothing.
use mathlib.Core.Path.{◌≡◌, refl, ◌∙◌, ap₂}
use mathlib.Core.Bool.{Bool, true, false, cond, ◌&&◌, ◌||◌, not, and_comm, or_comm}
use mathlib.Core.List.{List, [], ◌∷◌}
use Prim.Native.Nat.{ℕ, ◌+◌, ◌-◌, ◌/◌, ◌%◌, ◌<◌, ◌≤◌}
use native.Mathlib.Nat.{add_comm}
use native.Mathlib.Omega.{arith}
use borrow.Author.Tests.{leb-true, leb-false, le-leb, lt-ltb, le-ltb, eqb-true, ne_eqb}
use lib.Dec.{leb, eqb}
use lib.ListN.{get_or}
use Rattle.laws.specs.Ranges.{all}
use Rattle.laws.proofs.All.{all_at}
use Rattle.laws.proofs.Cases.{and_left, and_right}
use Rattle.dimension.specs.Grade.{apart, up_to3, either, rule, product, power, graded}
use Rattle.dimension.specs.Fraction as F
use Rattle.dimension.specs.declared.rational.Rational.{Rational}
use Rattle.dimension.specs.declared.grade.ProductOp.{ProductOp}
use Rattle.dimension.specs.declared.grade.ProductOp.TheVariants.{Mul, Div, Dot, Wedge}
use Rattle.std.specs.declared.option.Option.{Option}
use Rattle.std.specs.declared.option.Option.TheVariants.{None, Some}

-- ---- the tables
-- how a table writes a grade
abbrev written : Option ℕ → ℕ
written (Some g) = g
written None = 4

-- the tables as the program holds them: a row for each a, a column for each b
abbrev pub table : ProductOp → List ℕ
table Mul =
    0 ∷ 1 ∷ 2 ∷ 3 ∷
    1 ∷ 4 ∷ 4 ∷ 4 ∷
    2 ∷ 4 ∷ 4 ∷ 4 ∷
    3 ∷ 4 ∷ 4 ∷ 4 ∷ []
table Div =
    0 ∷ 4 ∷ 4 ∷ 4 ∷
    1 ∷ 4 ∷ 4 ∷ 4 ∷
    2 ∷ 4 ∷ 4 ∷ 4 ∷
    3 ∷ 4 ∷ 4 ∷ 4 ∷ []
table Dot =
    4 ∷ 4 ∷ 4 ∷ 4 ∷
    4 ∷ 0 ∷ 1 ∷ 2 ∷
    4 ∷ 1 ∷ 0 ∷ 1 ∷
    4 ∷ 2 ∷ 1 ∷ 0 ∷ []
table Wedge =
    4 ∷ 4 ∷ 4 ∷ 4 ∷
    4 ∷ 2 ∷ 3 ∷ 4 ∷
    4 ∷ 3 ∷ 4 ∷ 4 ∷
    4 ∷ 4 ∷ 4 ∷ 4 ∷ []

-- the entry at place k is what the rule says
abbrev right : ProductOp → ℕ → Bool
right op k = eqb (get_or (table op) k 0) (written (rule op (k / 4) (k % 4)))

-- at all sixteen places of all four
tested : (op : ProductOp) → all (right op) 16 ≡ true
unfolding all
tested Mul = refl
tested Div = refl
tested Dot = refl
tested Wedge = refl

read_back : (test : Bool) (g : ℕ) → graded (written (up_to3 test g)) ≡ up_to3 test g
read_back test g = go (test && leb g 3) refl
  where
    go : (t : Bool) → (test && leb g 3) ≡ t → graded (written (cond (test && leb g 3) (Some g) None)) ≡ cond (test && leb g 3) (Some g) None
    go true e = let h : g ≤ 3 = leb-true g 3 (and_right test (leb g 3) e) in rw (e, lt-ltb g 4 (omega arith))
    go false e = rw e

rule_back : (op : ProductOp) (a b : ℕ) → graded (written (rule op a b)) ≡ rule op a b
rule_back Mul a b = read_back (either a b) (a + b)
rule_back Div a b = read_back (eqb b 0) a
rule_back Dot a b = read_back (not (either a b)) (apart a b)
rule_back Wedge a b = read_back (not (either a b)) (a + b)

pub by_rule : (op : ProductOp) (i : ℕ) → i < 16 → graded (get_or (table op) i 0) ≡ rule op (i / 4) (i % 4)
by_rule op i h =
    let entry : get_or (table op) i 0 ≡ written (rule op (i / 4) (i % 4)) = eqb-true _ _ (all_at (right op) 16 i (tested op) h) in
    rw entry (rule_back op (i / 4) (i % 4))

-- ---- what a product's grade tells
differ : (x g : ℕ) → None ≡ Some g → ◌≡◌ {A = ℕ} 0 1
differ x g q = cc

up_to : (test : Bool) (x g : ℕ) → up_to3 test x ≡ Some g → (test ≡ true) × (x ≡ g) × (g ≤ 3)
up_to test x g e = go (test && leb x 3) refl
  where
    go : (t : Bool) → (test && leb x 3) ≡ t → (test ≡ true) × (x ≡ g) × (g ≤ 3)
    go true p =
        let q : Some x ≡ Some g = rw p at e in
        let z : x ≡ g = cc in
        (and_left test (leb x 3) p, z, rw z at (leb-true x 3 (and_right test (leb x 3) p)))
    go false p = let q : None ≡ Some g = rw p at e in (cc, cc, absurd (omega (arith, differ x g q)))

rule_small : (op : ProductOp) (a b g : ℕ) → rule op a b ≡ Some g → g ≤ 3
rule_small Mul a b g e = (up_to (either a b) (a + b) g e).2
rule_small Div a b g e = (up_to (eqb b 0) a g e).2
rule_small Dot a b g e = (up_to (not (either a b)) (apart a b) g e).2
rule_small Wedge a b g e = (up_to (not (either a b)) (a + b) g e).2

-- both were grades
asked : (t : Bool) (x : Option ℕ) (g : ℕ) → cond t x None ≡ Some g → (t ≡ true) × (x ≡ Some g)
asked true x g e = (refl, e)
asked false x g e = (cc, cc)

-- the answer is a grade, 0 to 3
pub product_small : (op : ProductOp) (a b g : ℕ) → product op a b ≡ Some g → g ≤ 3
unfolding product
product_small op a b g e = rule_small op a b g (asked (leb a 3 && leb b 3) (rule op a b) g e).1

pub power_small : (a g : ℕ) (e : Rational) → power a e ≡ Some g → g ≤ 3
unfolding power
power_small a g e p = (up_to (F.is_one e || eqb a 0) a g p).2

-- of two grades it is the rule's
pub product_rule : (op : ProductOp) (a b : ℕ) → a ≤ 3 → b ≤ 3 → product op a b ≡ rule op a b
unfolding product
product_rule op a b h k = rw (le-leb a 3 h, le-leb b 3 k)

-- ---- powers
up_to_graded : (a : ℕ) → up_to3 true a ≡ graded a
up_to_graded a = go (leb a 3) refl
  where
    go : (t : Bool) → leb a 3 ≡ t → cond (leb a 3) (Some a) None ≡ graded a
    go true p = let h : a ≤ 3 = leb-true a 3 p in rw (p, lt-ltb a 4 (omega arith))
    go false p = let h : 3 < a = leb-false a 3 p in rw (p, le-ltb a 4 (omega arith))

-- the first power keeps the grade
pub power_one : (a : ℕ) (e : Rational) → F.is_one e ≡ true → power a e ≡ graded a
unfolding power
power_one a e p = rw p (up_to_graded a)

-- any power of a scalar is a scalar, and no other has a grade
pub power_scalar : (e : Rational) → power 0 e ≡ Some 0
unfolding power
power_scalar e = rw (or_comm (F.is_one e) true)

pub power_other : (a : ℕ) (e : Rational) → F.is_one e ≡ false → 0 < a → power a e ≡ None
unfolding power
power_other a e p h = rw (p, ne_eqb a 0 (λ z. omega arith))

-- ---- left and right may change places in all but quotients
either_comm : (a b : ℕ) → either a b ≡ either b a
either_comm a b = or_comm (eqb a 0) (eqb b 0)

apart_comm : (a b : ℕ) → apart a b ≡ apart b a
apart_comm a b = add_comm (a - b) (b - a)

rule_comm : (op : ProductOp) (a b : ℕ) → (op ≡ Div → ⊥) → rule op a b ≡ rule op b a
rule_comm Mul a b h = ap₂ up_to3 (either_comm a b) (add_comm a b)
rule_comm Div a b h = absurd (h refl)
rule_comm Dot a b h = ap₂ (λ t g. up_to3 (not t) g) (either_comm a b) (apart_comm a b)
rule_comm Wedge a b h = ap₂ (λ t g. up_to3 (not t) g) (either_comm a b) (add_comm a b)

pub product_comm : (op : ProductOp) (a b : ℕ) → (op ≡ Div → ⊥) → product op a b ≡ product op b a
unfolding product
product_comm op a b h = ap₂ (λ t x. cond t x None) (and_comm (leb a 3) (leb b 3)) (rule_comm op a b h)

-- a scalar is neutral
pub product_scalar : (a : ℕ) → a ≤ 3 → product Mul a 0 ≡ Some a
product_scalar a h = product_rule Mul a 0 h (omega arith) ∙ go
  where
    go : rule Mul a 0 ≡ Some a
    go = let z : a + 0 ≡ a = omega arith in rw (or_comm (eqb a 0) true, z, le-leb a 3 h)
