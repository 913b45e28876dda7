-- The premises are met: by the teaching catalog's image and by that with a row 6 × 7 = 1, which lifts the 44 of area × bore. Assumes nothing.
use Prim.Native.Nat.{ℕ}
use mathlib.Core.Path.{◌≡◌, sym, ◌∙◌, ap}
use mathlib.Core.Bool.{true}
use mathlib.Core.List.{List}
use Rattle.std.specs.declared.result.Result.TheVariants.{Ok, Err}
use Rattle.laws.specs.Options.{is_some}
use Rattle.dimension.specs.declared.grade.ProductOp.TheVariants.{Mul}
use Rattle.rules.specs.Image.{compile_image}
use Rattle.teaching.specs.Image.{image}
use Rattle.teaching.proofs.Compiles.{compiled}
use Rattle.guarantees.specs.LargerImage.{larger_image}
use Rattle.guarantees.proofs.WithRow.{larger, premises_met, area_by_bore, row_there, twins_without}
use Rattle.guarantees.specs.Calls.{call_over}
use Rattle.error.specs.Shown.{fault}
use Rattle.error.specs.declared.cause.Error.TheVariants.{UnresolvedTwin}
use Rattle.formula.specs.Shown.{termed}
use Rattle.comparison.specs.declared.runs.Both.{Both}
use Rattle.comparison.specs.declared.runs.Called.{Called}
use Rattle.comparison.specs.Shown.{blank_table, blank_twins, called, both_of}
use Rattle.comparison.specs.Returned.{TwoImages, past_place, Demand3Returned}
use Rattle.comparison.proofs.Demand3Returned.{long, enough, run_is, demand3_returned}

pub met : TwoImages image larger_image compiled larger
met =
    let p = premises_met blank_table blank_table blank_twins long long enough in record {
      bytes = p.bytes;
      compiles = ap (compile_image image) (sym long) ∙ p.compiles;
      compiles_too = ap (compile_image larger_image) (sym long) ∙ p.compiles_too;
      same = p.same;
      more = p.more;
      scalars = p.scalars;
    }

pub returned : (bytes : List ℕ) (r : Both) → r ≡ both_of image larger_image bytes → Demand3Returned compiled larger bytes r
returned bytes r e = demand3_returned image larger_image compiled larger met bytes r e

-- "6×7 → 44 with 1, 5"
module _ (r : Both) (e : r ≡ both_of image larger_image area_by_bore) where
  pub both : Demand3Returned compiled larger area_by_bore r
  both = returned area_by_bore r e

  -- what is returned of the smaller image is its call
  small_is : r.small ≡ Ok (called (call_over image blank_table blank_twins area_by_bore))
  unfolding both_of
  small_is = ap (λ (b : Both). b.small) e ∙ run_is image area_by_bore compiled met.compiles

  pub twins_returned : both.small.answer ≡ Err (fault 2 (UnresolvedTwin 6 4 7 2))
  unfolding termed
  twins_returned =
      let z : r.small ≡ Ok both.small = both.ran_small in
      let w : r.small ≡ Ok (called (call_over image blank_table blank_twins area_by_bore)) = small_is in
      let v : both.small ≡ called (call_over image blank_table blank_twins area_by_bore) = cc in
      ap (λ (b : Called). b.answer) v ∙ ap termed (twins_without blank_table blank_table blank_twins long long enough)

  pub lifted_returned : past_place 2 both.large.answer ≡ true
  lifted_returned = both.lifted 2 6 Mul 7 2 twins_returned ∙ ap (λ o. is_some o) row_there
