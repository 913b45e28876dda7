-- 01's P cases over the teaching catalog: one list, one statement. Assumes nothing.
use Prim.Native.Nat.{ℕ}
use mathlib.Core.Path.{◌≡◌, refl}
use mathlib.Core.List.{List, [], ◌∷◌, map, zip_with}
use Rattle.std.specs.declared.option.Option.{Option}
use Rattle.std.specs.declared.option.Option.TheVariants.{None, Some}
use lib.IntN.{pos}
use Rattle.laws.specs.Out.{given, refused}
use Rattle.laws.specs.Ranges.{picked}
use Rattle.dimension.specs.Gcd.{gcd, euclid}
use Rattle.dimension.specs.Fraction as F
use Rattle.dimension.specs.Dimension as D
use Rattle.dimension.specs.Grade as G
use Rattle.dimension.specs.declared.dimensions.Dimensions.{Dimensions}
use Rattle.dimension.specs.declared.grade.ProductOp.TheVariants.{Mul, Div, Dot, Wedge}
use Rattle.rules.specs.Kinds.{fits, carries}
use Rattle.rules.specs.Refusal.{Answer, Told, told}
use Rattle.rules.specs.Arithmetic.{Add, Sub, Op, summed, multiplied, operand, graded, grade_by, joined, derive, neutral_by, neutral, rated_by, rated, resolve, product, sum_by, sum, neutral_power, raised, power, scaled, combine}
use Rattle.teaching.specs.Listed.{bases, listed, teaching, no_rows}

-- what a lookup says: a kind, or 01's number with dimensions, values and twin list
pub data Reply : Type 0 where
  kind : ℕ → Reply
  no : Told → Reply

abbrev pub reply : Answer ℕ → Reply
reply (given k) = kind k
reply (refused x) = no (told x)

pub record Case : Type 0 where
  pub asked : Answer ℕ
  pub answered : Reply

abbrev pub two : ℕ → Op → ℕ → Answer ℕ
two l op r = combine teaching no_rows op l r

abbrev pub to : ℕ → ℕ → ℕ → Answer ℕ
to k n d = power teaching 8 k (Some (F.ratio (pos n) d))

abbrev pub says : ℕ → Option Dimensions → List ℕ → List ℕ → Reply
says n d vs ks = no (record { number = n; dims = d; values = vs; twins = ks })

-- the first fourteen are marked P; of the others, to be run, two compute at once
abbrev pub cases : List Case
cases =
    record { asked = two 2 (multiplied Mul) 4; answered = kind 1 }
    ∷ record { asked = two 4 (multiplied Mul) 2; answered = kind 1 }
    ∷ record { asked = two 1 (multiplied Div) 4; answered = kind 2 }
    ∷ record { asked = two 1 (multiplied Div) 1; answered = kind 0 }
    ∷ record { asked = two 6 (multiplied Mul) 7; answered = says 44 None (2 ∷ []) (1 ∷ 5 ∷ []) }
    ∷ record { asked = two 3 (summed Sub) 3; answered = kind 4 }
    ∷ record { asked = two 3 (summed Add) 3; answered = says 43 None (2 ∷ 3 ∷ 3 ∷ []) [] }
    ∷ record { asked = two 4 (summed Sub) 3; answered = says 43 None (3 ∷ 4 ∷ 3 ∷ []) [] }
    ∷ record { asked = two 8 (multiplied Dot) 8; answered = kind 6 }
    ∷ record { asked = two 7 (multiplied Dot) 8; answered = says 24 None (7 ∷ 8 ∷ 0 ∷ 1 ∷ []) [] }
    ∷ record { asked = two 8 (multiplied Wedge) 8; answered = says 45 (Some (bases (pos 2) (pos 0))) (2 ∷ []) [] }
    ∷ record { asked = to 6 1 2; answered = kind 7 }
    ∷ record { asked = to 8 1 1; answered = kind 8 }
    ∷ record { asked = two 1 (summed Add) 5; answered = says 42 None (1 ∷ 5 ∷ []) [] }
    ∷ record { asked = to 7 2147483647 1; answered = says 47 (Some (bases (pos 2147483647) (pos 0))) (0 ∷ []) [] }
    ∷ record { asked = to 6 2147483647 1; answered = says 28 None (6 ∷ []) [] }
    ∷ []

pub answered_so : map (λ (c : Case). reply c.asked) cases ≡ map (λ (c : Case). c.answered) cases
unfolding teaching listed combine product derive operand graded grade_by joined neutral neutral_by rated rated_by resolve fits carries picked sum sum_by power scaled raised neutral_power told D.product D.quotient D.power D.outcome D.equal G.product F.sum F.difference F.product F.answer F.limited F.within F.lowest F.equal F.is_one F.is_zero gcd euclid zip_with
answered_so = refl
