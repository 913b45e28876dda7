-- Each of the premises about grades is needed: three catalogs that have what compilation guarantees and lack one of them. In each a formula is given a
-- kind of another grade than is calculated, so demand 3 fails. By 16 the time kind is scalar, so a duration that isn't has another grade than its
-- point; the second catalog lacks the third premise too (`Compiles.duration_follows`). Assumes nothing.
use Prim.Native.Nat.{ℕ}
use mathlib.Core.Path.{◌≡◌, refl, sym, ◌∙◌}
use mathlib.Core.Bool.{true, false, true≢false}
use mathlib.Core.List.{List, [], ◌∷◌, zip_with}
use Rattle.std.specs.declared.option.Option.{Option}
use Rattle.std.specs.declared.option.Option.TheVariants.{None, Some}
use native.Mathlib.Omega.{arith}
use lib.IntN.{ℤ, pos, neg_ℤ}
use Rattle.laws.specs.Ranges.{picked, all}
use Rattle.dimension.specs.Gcd.{gcd, euclid}
use Rattle.dimension.specs.Fraction as F
use Rattle.dimension.specs.Dimension as D
use Rattle.dimension.specs.Grade as G
use Rattle.dimension.specs.declared.dimensions.Dimensions.{Dimensions}
use Rattle.dimension.specs.declared.grade.ProductOp.TheVariants.{Mul}
use Rattle.rules.specs.Kinds.{Kinds, duration, carries, fits}
use Rattle.rules.specs.Arithmetic.{Sub, summed, operand, graded, grade_by, joined, derive, neutral_by, neutral, rated_by, rated, resolve, product, sum_by, sum, combine, indexed}
use Rattle.rules.specs.Formula.{Token, kind, binary, combined, Kind, Ended, answered, walk, shape, malformed_at, two_kinds, binary_term, kind_term, terms, formula, Meaning, of, meaning, meanings, binary_of, unary_of, product_of, calculation}
use Rattle.teaching.specs.Listed.{Listed, kinds_by, bases, no_rows}
use Rattle.guarantees.specs.AtToken.{times_token}
use Rattle.guarantees.specs.Premises.{Guaranteed}
use Rattle.guarantees.specs.Demand3.{Demand3}
use Rattle.guarantees.proofs.Tested.{kind_fine, tested, list_fine, point_fine, one_scalar, duration_scalar, points_graded, list_points}

abbrev linear : ℤ → ℤ → ℕ → Listed
linear a b g = record { dims = Some (bases a b); grade = g; difference = None; rate_of = None; rate = None }

nothing : {A : Type 0} {k : ℕ} → None ≡ Some k → A
nothing e = let z : true ≡ false = cc in absurd (true≢false z)

-- a kind of grade g where g' is calculated
odd : (K : Kinds) (toks : List Token) (k g g' : ℕ) (d d' : Option Dimensions) → formula K no_rows toks ≡ answered (Kind k) → meaning K (Kind k) ≡ of d g → calculation K toks ≡ answered (of d' g')
    → (g ≡ g' → ⊥) → Demand3 K no_rows no_rows toks → ⊥
odd K toks k g g' d d' e m c n h =
    let z : ◌≡◌ {A = Meaning} (of d' g') (of d g) = same _ _ (sym c ∙ h.calculated (Kind k) e) ∙ m in
    n (sym (grades d' d g' g z))
  where
    same : (x y : Meaning) → ◌≡◌ {A = Ended (Unit {0}) Meaning} (answered x) (answered y) → x ≡ y
    same x y p = cc

    grades : (d d' : Option Dimensions) (g g' : ℕ) → of d g ≡ of d' g' → g ≡ g'
    grades d d' g g' p = cc

-- ---- the dimensionless kind is not scalar: 0 dimensionless of grade 1, 1 bore; bore × 0
abbrev one_list : List Listed
one_list = linear (pos 0) (pos 0) 1 ∷ linear (pos 1) (pos 0) 0 ∷ []

unfoldable pub odd_one : Kinds
odd_one = kinds_by one_list (Some 0) None

abbrev pub one_tokens : List Token
one_tokens = kind 1 ∷ kind 0 ∷ times_token Mul ∷ []

pub one_compiles : Guaranteed odd_one no_rows
unfolding odd_one kind_fine all D.equal F.equal F.declared gcd euclid
one_compiles = tested odd_one no_rows (list_fine one_list (Some 0) None refl) refl (λ l op r k e. nothing e)

-- no time kind, no point: the other two hold of themselves
pub one_others : ((d : ℕ) → duration odd_one ≡ Some d → odd_one.grade d ≡ 0) × ((k d : ℕ) → odd_one.difference k ≡ Some d → odd_one.grade d ≡ odd_one.grade k)
unfolding odd_one point_fine all
one_others = (duration_scalar odd_one refl, points_graded odd_one (list_points one_list (Some 0) None refl))

pub one_fails : Demand3 odd_one no_rows no_rows one_tokens → ⊥
unfolding odd_one formula malformed_at walk shape terms kind_term indexed binary_term two_kinds combine product derive operand graded grade_by joined neutral neutral_by rated rated_by resolve fits carries picked calculation meanings binary_of unary_of product_of G.product D.product D.outcome F.sum F.answer F.limited F.within F.lowest gcd euclid zip_with
one_fails = odd odd_one one_tokens 1 0 1 (Some (bases (pos 1) (pos 0))) (Some (bases (pos 1) (pos 0))) refl refl refl (λ z. omega arith)

-- ---- duration is not scalar: 0 clock, 1 duration of grade 1, 2 volume, 3 flow; flow × duration
abbrev time_list : List Listed
time_list =
    record { dims = Some (bases (pos 0) (pos 1)); grade = 0; difference = Some 1; rate_of = None; rate = None }
    ∷ linear (pos 0) (pos 1) 1
    ∷ record { dims = Some (bases (pos 3) (pos 0)); grade = 0; difference = None; rate_of = None; rate = Some 3 }
    ∷ record { dims = Some (bases (pos 3) (neg_ℤ (pos 1))); grade = 0; difference = None; rate_of = Some 2; rate = None }
    ∷ []

unfoldable pub odd_time : Kinds
odd_time = kinds_by time_list None (Some 0)

abbrev pub time_tokens : List Token
time_tokens = kind 3 ∷ kind 1 ∷ times_token Mul ∷ []

pub time_compiles : Guaranteed odd_time no_rows
unfolding odd_time kind_fine all carries D.product D.outcome D.equal F.sum F.answer F.limited F.within F.lowest F.equal F.declared gcd euclid zip_with
time_compiles = tested odd_time no_rows (list_fine time_list None (Some 0) refl) refl (λ l op r k e. nothing e)

pub time_fails : Demand3 odd_time no_rows no_rows time_tokens → ⊥
unfolding odd_time formula malformed_at walk shape terms kind_term indexed binary_term two_kinds combine product derive operand graded grade_by joined neutral neutral_by rated rated_by resolve fits carries picked calculation meanings binary_of unary_of product_of G.product D.product D.outcome F.sum F.answer F.limited F.within F.lowest gcd euclid zip_with
time_fails = odd odd_time time_tokens 2 0 1 (Some (bases (pos 3) (pos 0))) (Some (bases (pos 3) (pos 0))) refl refl refl (λ z. omega arith)

-- ---- a point of another grade than its difference: 0 place, of grade 0, with the difference 1 shift, of grade 1; place − place
abbrev point_list : List Listed
point_list = record { dims = Some (bases (pos 1) (pos 0)); grade = 0; difference = Some 1; rate_of = None; rate = None } ∷ linear (pos 1) (pos 0) 1 ∷ []

unfoldable pub odd_point : Kinds
odd_point = kinds_by point_list None None

abbrev pub point_tokens : List Token
point_tokens = kind 0 ∷ kind 0 ∷ binary (combined (summed Sub)) ∷ []

pub point_compiles : Guaranteed odd_point no_rows
unfolding odd_point kind_fine all D.equal F.equal F.declared gcd euclid
point_compiles = tested odd_point no_rows (list_fine point_list None None refl) refl (λ l op r k e. nothing e)

-- neither a dimensionless nor a time kind
pub point_others : ((o : ℕ) → odd_point.dimensionless ≡ Some o → odd_point.grade o ≡ 0) × ((d : ℕ) → duration odd_point ≡ Some d → odd_point.grade d ≡ 0)
unfolding odd_point
point_others = (one_scalar odd_point refl, duration_scalar odd_point refl)

pub point_fails : Demand3 odd_point no_rows no_rows point_tokens → ⊥
unfolding odd_point formula malformed_at walk shape terms kind_term indexed binary_term two_kinds combine sum sum_by calculation meanings binary_of unary_of
point_fails = odd odd_point point_tokens 1 1 0 (Some (bases (pos 1) (pos 0))) (Some (bases (pos 1) (pos 0))) refl refl refl (λ z. omega arith)
