-- The teaching catalog's image compiles to the kinds that 01 lists, and no rows. Assumes nothing.
use Prim.Native.Nat.{ℕ, zero, suc, ◌+◌, ◌/◌, ◌<◌, ◌≤◌}
use mathlib.Core.Path.{◌≡◌, refl, sym, ◌∙◌, ap, fun_ext}
use mathlib.Core.Bool.{Bool, true, false}
use mathlib.Core.List.{List, [], ◌∷◌, zip_with}
use Rattle.std.specs.declared.option.Option.TheVariants.{None, Some}
use native.Mathlib.Nat.{not-suc-le-zero, le_of_suc-le-suc}
use native.Mathlib.Omega.{arith}
use borrow.Author.Tests.{ltb-true, ltb-false}
use lib.Dec.{ltb}
use lib.ListN.{length, get_or, get_or-eq_default}
use Rattle.laws.specs.Out.{given, each}
use Rattle.laws.specs.Ranges.{first, sum, tab, below}
use Rattle.dimension.specs.Gcd.{gcd, euclid}
use Rattle.dimension.specs.Fraction as F
use Rattle.dimension.specs.Dimension as D
use Rattle.rules.specs.Kinds.{carries}
use Rattle.rules.specs.Arithmetic.{operand}
use Rattle.rules.specs.Bytes.{le2, le4, block_sum}
use Rattle.rules.specs.Layout.{filled, id_wrong, header_wrong, ids_wrong, exponent_wrong, kind_wrong, row_wrong, block_head_wrong, block_wrong, byte_wrong}
use Rattle.laws.proofs.Below.{below_past}
use Rattle.rules.specs.Catalog.{absent_kind, blank, same, id_at, exponent_at, dims_at, kind_from, catalog_in, find, link, difference_of, target_of, rate_among, is_difference, role, kinds_of, row_among, rows_of}
use Rattle.rules.specs.Compile.{Compiled, called, id_rule, difference_rule, dimensionless_rule, time_rule, rate_rule, compiles, compile}
use Rattle.rules.specs.Image.{length_wrong, length_check, sum_wrong, readable, lent_check, compile_image}
use Rattle.teaching.specs.Listed.{Listed, unlisted, listed, teaching, no_rows}
use Rattle.teaching.specs.Image.{image}

-- ---- 1 to 4
pub blocks_right : first (sum_wrong image) (length image / 512) ≡ None
unfolding sum_wrong block_sum sum le2 le4 first image
blocks_right = refl

pub layout_right : first (byte_wrong image) (length image) ≡ None
unfolding byte_wrong block_wrong header_wrong kind_wrong row_wrong ids_wrong id_wrong exponent_wrong block_head_wrong filled le2 first image
layout_right = refl

pub image_readable : readable image ≡ given tt
unfolding readable le2 le4 image
image_readable = rw (blocks_right, layout_right)

-- ---- 10 to 27
pub rules_kept : compiles (catalog_in image) ≡ given tt
unfolding compiles each id_rule difference_rule role dimensionless_rule time_rule rate_rule carries called blank same find link rate_among is_difference kinds_of below operand catalog_in kind_from dims_at exponent_at id_at tab first le2 image D.product D.outcome D.equal F.sum F.answer F.limited F.within F.lowest F.equal gcd euclid zip_with
rules_kept = refl

-- ---- what is declared, kind by kind, is what is listed
module _ {A : Type 0} (h : Listed → A) (f : ℕ → A) where
  -- f at i, i + 1, .. is h of the list's members
  abbrev Matches : ℕ → List Listed → Type 0
  Matches i [] = Unit {0}
  Matches i (d ∷ l) = (f i ≡ h d) × Matches (suc i) l

  at_member : (i : ℕ) (l : List Listed) → Matches i l → (k : ℕ) → k < length l → f (i + k) ≡ h (get_or l k unlisted)
  at_member i [] p k q = absurd (not-suc-le-zero q)
  at_member i (d ∷ l) p zero q = let z : i + 0 ≡ i = omega arith in rw z p.0
  at_member i (d ∷ l) p (suc k) q = let z : i + suc k ≡ suc i + k = omega arith in rw z (at_member (suc i) l p.1 k (le_of_suc-le-suc q))

  -- and past the end h of nothing: so f is the list's
  by_list : (l : List Listed) → Matches 0 l → ((k : ℕ) → length l ≤ k → f k ≡ h unlisted) → f ≡ (λ k. h (get_or l k unlisted))
  by_list l p e = fun_ext (λ k. go k (ltb k (length l)) refl)
    where
      go : (k : ℕ) (t : Bool) → ltb k (length l) ≡ t → f k ≡ h (get_or l k unlisted)
      go k true q = let z : 0 + k ≡ k = omega arith in rw z at (at_member 0 l p k (ltb-true k (length l) q))
      go k false q = e k (ltb-false k (length l) q) ∙ ap h (sym (get_or-eq_default l unlisted (ltb-false k (length l) q)))

-- past the ninth kind nothing is declared
past : (k : ℕ) → 9 ≤ k → (catalog_in image).kind k ≡ absent_kind
unfolding catalog_in le2 image
past k h = below_past 9 absent_kind _ k h

abbrev Are : {A : Type 0} → (Listed → A) → (ℕ → A) → Type 0
Are {A} h f = f ≡ (λ k. h (get_or listed k unlisted))

dims_are : Are (λ d. d.dims) (λ k. ((catalog_in image).kind k).dims)
unfolding listed catalog_in below kind_from dims_at exponent_at tab le2 image F.answer F.limited F.within F.lowest gcd euclid
dims_are = by_list (λ d. d.dims) _ listed (refl, (refl, (refl, (refl, (refl, (refl, (refl, (refl, (refl, tt))))))))) (λ k h. ap (λ d. d.dims) (past k h))

grades_are : Are (λ d. d.grade) (λ k. ((catalog_in image).kind k).grade)
unfolding listed catalog_in below kind_from le2 image
grades_are = by_list (λ d. d.grade) _ listed (refl, (refl, (refl, (refl, (refl, (refl, (refl, (refl, (refl, tt))))))))) (λ k h. ap (λ d. d.grade) (past k h))

differences_are : Are (λ d. d.difference) (difference_of (catalog_in image))
unfolding listed catalog_in below kind_from id_at link find first blank same tab le2 image
differences_are = by_list (λ d. d.difference) _ listed (refl, (refl, (refl, (refl, (refl, (refl, (refl, (refl, (refl, tt))))))))) (λ k h. ap (λ d. link (catalog_in image) d.difference) (past k h))

targets_are : Are (λ d. d.rate_of) (target_of (catalog_in image))
unfolding listed catalog_in below kind_from id_at link find first blank same tab le2 image
targets_are = by_list (λ d. d.rate_of) _ listed (refl, (refl, (refl, (refl, (refl, (refl, (refl, (refl, (refl, tt))))))))) (λ k h. ap (λ d. link (catalog_in image) d.rate_of) (past k h))

rates_are : Are (λ d. d.rate) (kinds_of (catalog_in image)).rate
unfolding listed kinds_of catalog_in below kind_from id_at link find first blank same tab rate_among le2 image
rates_are = by_list (λ d. d.rate) _ listed (refl, (refl, (refl, (refl, (refl, (refl, (refl, (refl, (refl, tt))))))))) (λ k h. below_past 9 None (rate_among (catalog_in image) 9) k h)

pub kinds_are : kinds_of (catalog_in image) ≡ teaching
unfolding kinds_of teaching listed catalog_in below kind_from id_at link find first blank same tab le2 image
kinds_are i = record {
  count = 9;
  dims = dims_are i;
  grade = grades_are i;
  difference = differences_are i;
  rate_of = targets_are i;
  rate = rates_are i;
  dimensionless = Some 0;
  time = Some 3;
}

pub rows_are : rows_of (catalog_in image) ≡ no_rows
unfolding rows_of row_among catalog_in le2 first image
rows_are = refl

-- ---- the whole
abbrev pub compiled : Compiled
compiled = record { kinds = teaching; rows = no_rows }

pub teaches : compile_image image 9296 ≡ given compiled
unfolding compile_image lent_check compile length_check length_wrong image
teaches = rw (image_readable, rules_kept) (ap (λ (C : Compiled). given C) (λ i. record { kinds = kinds_are i; rows = rows_are i }))
