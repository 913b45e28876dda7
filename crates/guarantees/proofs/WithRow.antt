-- The teaching catalog's image with a row added compiles, and both images meet every premise: so demand 3 holds of every pair of calls over these
-- bytes, and the 44 of area × bore is lifted there. Assumes nothing.
use Prim.Native.Nat.{ℕ, zero, suc, ◌/◌, ◌<◌, ◌≤◌}
use mathlib.Core.Path.{◌≡◌, refl, ◌∙◌, ap}
use mathlib.Core.Bool.{true}
use mathlib.Core.List.{List, [], ◌∷◌, ◌++◌, zip_with}
use Rattle.std.specs.declared.option.Option.TheVariants.{None, Some}
use native.Mathlib.Nat.{not-suc-le-zero}
use native.Mathlib.Omega.{arith}
use lib.ListN.{length, replicate}
use Rattle.laws.specs.Options.{is_some}
use Rattle.laws.specs.Out.{given, refused, each}
use Rattle.laws.specs.Ranges.{first, picked, sum, tab, below}
use Rattle.dimension.specs.Gcd.{gcd, euclid}
use Rattle.dimension.specs.Fraction as F
use Rattle.dimension.specs.Dimension as D
use Rattle.dimension.specs.Grade as G
use Rattle.dimension.specs.declared.grade.ProductOp.TheVariants.{Mul}
use Rattle.rules.specs.Kinds.{op_of, carries, fits}
use Rattle.rules.specs.Refusal.{UnresolvedTwin}
use Rattle.rules.specs.Arithmetic.{operand, graded, grade_by, joined, derive, neutral_by, neutral, rated_by, rated, resolve, product, combine, indexed}
use Rattle.rules.specs.Bytes.{le2, le4, block_sum}
use Rattle.rules.specs.Layout.{filled, id_wrong, header_wrong, ids_wrong, exponent_wrong, kind_wrong, row_wrong, block_head_wrong, block_wrong, byte_wrong}
use Rattle.rules.specs.Catalog.{blank, same, id_at, exponent_at, dims_at, kind_from, row_from, catalog_in, find, link, rate_among, is_difference, role, kinds_of, names, covers, row_among, rows_of}
use Rattle.rules.specs.Compile.{Compiled, called, id_rule, difference_rule, dimensionless_rule, time_rule, rate_rule, fresh, row_rule, compiles, compile}
use Rattle.rules.specs.Image.{length_wrong, length_check, sum_wrong, readable, lent_check, compile_image}
use Rattle.rules.specs.Formula.{walk, shape, malformed_at, two_kinds, binary_term, kind_term, terms, formula}
use Rattle.rules.specs.Token as token
use Rattle.rules.specs.Token.{token_by, unused_zero, token_at, tokens_in, good_length}
use Rattle.rules.specs.Call.{formula_in}
use Rattle.teaching.specs.Listed.{listed, teaching, no_rows}
use Rattle.teaching.specs.Image.{image}
use Rattle.teaching.proofs.Compiles.{compiled, teaches}
use Rattle.guarantees.specs.Images.{Bytes, SameKinds, MoreRows}
use Rattle.guarantees.specs.Calls.{call_over, past_token, fault, TwoCatalogs, Demand3Calls}
use Rattle.guarantees.specs.LargerImage.{larger_image}
use Rattle.guarantees.proofs.Compiles.{compiled_of}
use Rattle.guarantees.proofs.Teaches.{small_bytes, image_bytes, teaching_scalars}
use Rattle.guarantees.proofs.Lent.{call_is}
use Rattle.guarantees.proofs.Calls.{demand3_calls}

larger_bytes : Bytes larger_image
unfolding larger_image
larger_bytes = small_bytes larger_image refl

-- ---- it compiles
blocks_right : first (sum_wrong larger_image) (length larger_image / 512) ≡ None
unfolding sum_wrong block_sum sum le2 le4 first larger_image
blocks_right = refl

layout_right : first (byte_wrong larger_image) (length larger_image) ≡ None
unfolding byte_wrong block_wrong header_wrong kind_wrong row_wrong ids_wrong id_wrong exponent_wrong block_head_wrong filled le2 first larger_image
layout_right = refl

image_readable : readable larger_image ≡ given tt
unfolding readable le2 le4 larger_image
image_readable = rw (blocks_right, layout_right)

rules_kept : compiles (catalog_in larger_image) ≡ given tt
unfolding compiles each id_rule difference_rule role dimensionless_rule time_rule rate_rule row_rule fresh carries called blank same find link rate_among is_difference names covers row_among kinds_of below operand derive graded grade_by joined resolve neutral neutral_by rated rated_by fits picked catalog_in kind_from row_from op_of dims_at exponent_at id_at tab first le2 larger_image D.product D.outcome D.equal G.product F.sum F.answer F.limited F.within F.lowest F.equal gcd euclid zip_with
rules_kept = refl

abbrev pub larger : Compiled
larger = compiled_of (catalog_in larger_image)

pub larger_compiles : compile_image larger_image 9296 ≡ given larger
unfolding compile_image lent_check compile length_check length_wrong larger_image
larger_compiles = rw (image_readable, rules_kept)

-- ---- the premises
up_to9 : (P : ℕ → Type 0) → P 0 → P 1 → P 2 → P 3 → P 4 → P 5 → P 6 → P 7 → P 8 → (k : ℕ) → k < 9 → P k
up_to9 P a b c d e f g h i zero l = a
up_to9 P a b c d e f g h i (suc zero) l = b
up_to9 P a b c d e f g h i (suc (suc zero)) l = c
up_to9 P a b c d e f g h i (suc (suc (suc zero))) l = d
up_to9 P a b c d e f g h i (suc (suc (suc (suc zero)))) l = e
up_to9 P a b c d e f g h i (suc (suc (suc (suc (suc zero))))) l = f
up_to9 P a b c d e f g h i (suc (suc (suc (suc (suc (suc zero)))))) l = g
up_to9 P a b c d e f g h i (suc (suc (suc (suc (suc (suc (suc zero))))))) l = h
up_to9 P a b c d e f g h i (suc (suc (suc (suc (suc (suc (suc (suc zero)))))))) l = i
up_to9 P a b c d e f g h i (suc (suc (suc (suc (suc (suc (suc (suc (suc k))))))))) l = absurd (omega arith)

kinds_alike : (k : ℕ) → k < 9 → (catalog_in image).kind k ≡ (catalog_in larger_image).kind k
unfolding catalog_in below kind_from dims_at exponent_at id_at tab le2 image larger_image F.lowest gcd euclid
kinds_alike = up_to9 (λ k. (catalog_in image).kind k ≡ (catalog_in larger_image).kind k) refl refl refl refl refl refl refl refl refl

pub same_kinds : SameKinds (catalog_in image) (catalog_in larger_image)
unfolding catalog_in id_at tab le2 image larger_image
same_kinds = record { count = refl; kind = kinds_alike; dimensionless = refl; time = refl }

pub more_rows : MoreRows (catalog_in image) (catalog_in larger_image)
unfolding catalog_in le2 image
more_rows i h = absurd (not-suc-le-zero h)

-- ---- area × bore, as tokens
abbrev pub area_by_bore : List ℕ
area_by_bore = (1 ∷ 0 ∷ 6 ∷ 0 ∷ replicate 8 0) ++ (1 ∷ 0 ∷ 7 ∷ 0 ∷ replicate 8 0) ++ (4 ∷ replicate 11 0)

twins_said : formula_in teaching no_rows area_by_bore ≡ refused (fault 2 (UnresolvedTwin 6 Mul 7 (1 ∷ 5 ∷ [])))
unfolding formula_in formula good_length tokens_in token_at token_by unused_zero token.exponent_at le2 le4 malformed_at walk shape terms kind_term indexed binary_term two_kinds combine product derive operand graded grade_by joined neutral neutral_by rated rated_by resolve fits carries picked teaching listed tab D.product D.outcome D.equal G.product F.sum F.answer F.limited F.within F.lowest F.equal gcd euclid zip_with
twins_said = refl

pub row_there : larger.rows 6 Mul 7 ≡ Some 1
unfolding rows_of row_among covers names find same catalog_in below kind_from row_from op_of id_at tab first le2 larger_image
row_there = refl

-- ---- demand 3 on these bytes, with no premise left but the lengths of what is lent
module _ (old old-too twins : List ℕ) (room : length old ≡ 9296) (room-too : length old-too ≡ 9296) (enough : 240 ≤ length twins) where
  small_compiles : compile_image image (length old) ≡ given compiled
  small_compiles = rw room teaches

  large_compiles : compile_image larger_image (length old-too) ≡ given larger
  large_compiles = rw room-too larger_compiles

  pub premises_met : TwoCatalogs image larger_image old old-too twins compiled larger
  premises_met = record {
    bytes = (image_bytes, larger_bytes);
    compiles = small_compiles;
    compiles_too = large_compiles;
    same = same_kinds;
    more = more_rows;
    scalars = teaching_scalars;
    enough = enough;
  }

  pub taught : Demand3Calls image larger_image old old-too twins compiled larger
  taught = demand3_calls image larger_image old old-too twins compiled larger premises_met

  -- "6×7 → 44 with 1, 5", and lifted by the row
  pub twins_without : call_over image old twins area_by_bore ≡ refused (fault 2 (UnresolvedTwin 6 Mul 7 (1 ∷ 5 ∷ [])))
  twins_without = call_is image old image_bytes compiled small_compiles twins enough area_by_bore ∙ twins_said

  pub lifted_with : past_token 2 (call_over larger_image old-too twins area_by_bore) ≡ true
  lifted_with = (taught.kept area_by_bore).lifted 2 6 Mul 7 (1 ∷ 5 ∷ []) twins_without ∙ ap (λ o. is_some o) row_there
