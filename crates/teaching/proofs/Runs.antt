-- Some of the cases that 01 marks to be run, shown here because they compute at once. Assumes nothing.
use Prim.Native.Nat.{ℕ}
use mathlib.Core.Path.{◌≡◌, refl, ap}
use mathlib.Core.Bool.{false}
use mathlib.Core.List.{List, [], ◌∷◌, ◌++◌, zip_with}
use lib.ListN.{replicate}
use Rattle.laws.specs.Out.{refused}
use Rattle.laws.specs.Ranges.{first, picked, sum, tab, below}
use Rattle.dimension.specs.Gcd.{gcd, euclid}
use Rattle.dimension.specs.Fraction as F
use Rattle.dimension.specs.Dimension as D
use Rattle.dimension.specs.Grade as G
use Rattle.dimension.specs.declared.grade.ProductOp.TheVariants.{Mul}
use Rattle.rules.specs.Kinds.{fits, carries}
use Rattle.rules.specs.Refusal.{Placed, DerivedOperationRule, UnresolvedTwin, told}
use Rattle.rules.specs.Arithmetic.{operand, graded, grade_by, joined, derive, neutral_by, neutral, rated_by, rated, resolve, product, combine, indexed}
use Rattle.rules.specs.Bytes.{le2, le4, block_sum}
use Rattle.rules.specs.Catalog.{Catalog, blank, same, id_at, exponent_at, dims_at, kind_from, catalog_in, find, link, rate_among, kinds_of}
use Rattle.rules.specs.Compile.{called, row_rule}
use Rattle.rules.specs.Formula.{Term, walk, shape, malformed_at, two_kinds, binary_term, kind_term, terms, formula}
use Rattle.rules.specs.Token as token
use Rattle.rules.specs.Token.{token_by, unused_zero, token_at, tokens_in, good_length}
use Rattle.rules.specs.Call.{formula_in}
use Rattle.rules.specs.Report.{image_length, digits_by, digits, line, checked, kindcheck}
use Rattle.teaching.specs.Listed.{listed, teaching, no_rows}
use Rattle.teaching.specs.Image.{image}
use Rattle.teaching.proofs.Compiles.{teaches}

-- "the empty catalog's block sums to 20"
abbrev empty : List ℕ
empty = (0 ∷ 0 ∷ 0 ∷ 0 ∷ 4 ∷ []) ++ replicate 503 0 ++ (20 ∷ 0 ∷ 0 ∷ 0 ∷ [])

empty_sum : block_sum empty 0 ≡ 20
unfolding block_sum sum
empty_sum = refl

-- "a row 2×4=5 → 26": its derived kind is the rate's target, 1
abbrev taught : Catalog
taught = catalog_in image

abbrev with_row : Catalog
with_row = record {
  kind_count = taught.kind_count;
  kind = taught.kind;
  dimensionless = taught.dimensionless;
  time = taught.time;
  row_count = 1;
  row = λ i. record { left = (taught.kind 2).id; right = (taught.kind 4).id; result = (taught.kind 5).id; op = Mul; commutative = false };
}

row_derived_law : row_rule with_row 0 ≡ refused (DerivedOperationRule 1)
unfolding row_rule called find first same blank link kinds_of below rate_among operand derive graded grade_by joined resolve neutral neutral_by rated rated_by fits carries picked catalog_in kind_from dims_at exponent_at id_at tab le2 image D.product D.outcome D.equal G.product F.sum F.answer F.limited F.within F.lowest F.equal gcd euclid zip_with
row_derived_law = refl

-- "Tokens kind 6, kind 7, Mul over this catalog print `refused 44 2` and a newline, nothing else."
abbrev tokens : List ℕ
tokens =
    (1 ∷ 0 ∷ 6 ∷ 0 ∷ replicate 8 0)
    ++ (1 ∷ 0 ∷ 7 ∷ 0 ∷ replicate 8 0)
    ++ (4 ∷ replicate 11 0)

twins_at_law : formula_in teaching no_rows tokens ≡ refused (record { place = 2; refusal = UnresolvedTwin 6 Mul 7 (1 ∷ 5 ∷ []) })
unfolding formula_in formula good_length tokens_in token_at token_by unused_zero token.exponent_at le2 le4 malformed_at walk shape terms kind_term indexed binary_term two_kinds combine product derive operand graded grade_by joined neutral neutral_by rated rated_by resolve fits carries picked teaching listed tab D.product D.outcome D.equal G.product F.sum F.answer F.limited F.within F.lowest F.equal gcd euclid zip_with
twins_at_law = refl

checked_so : checked image tokens ≡ refused (record { place = 2; refusal = UnresolvedTwin 6 Mul 7 (1 ∷ 5 ∷ []) })
unfolding checked
checked_so = rw teaches twins_at_law

-- `refused 44 2` and a newline, as bytes
pub printed : kindcheck (image ++ tokens) ≡ 114 ∷ 101 ∷ 102 ∷ 117 ∷ 115 ∷ 101 ∷ 100 ∷ 32 ∷ 52 ∷ 52 ∷ 32 ∷ 50 ∷ 10 ∷ []
unfolding kindcheck image_length image le2 line digits digits_by told
printed = ap (λ (m : Placed Term). line image m) checked_so
