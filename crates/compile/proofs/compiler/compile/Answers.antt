-- `compile::compiler::compile` meets its contract.
use mathlib.Core.Path.{◌≡◌, refl}
use native.Mathlib.Omega.{arith}
use lib.ListN.{length}
use Rattle.std.proofs.lemmas.Result.{err_from_is_err_and}
use Rattle.laws.specs.Out.{given}
use Rattle.rules.specs.Image.{lent_check}
use Rattle.compile.proofs.Told.{fine_given}
use Rattle.compile.proofs.Stages.{lent_stops}
use Rattle.compile.proofs.Readied.{kinds_few}
use Rattle.compile.proofs.compiler.compile.Goals as goal

pub returns-in_err-check_lent : goal.returns-in_err-check_lent
returns-in_err-check_lent c =
    let given = lent_stops _ _ c.in_err-check_lent.ensures in
    let p = err_from_is_err_and c.from_residual.result c.from_residual.ensures.1 in
    record { value = rw (p.1, p.2) given.0; table_after = given.1 }

pub compile_in-requires : goal.compile_in-requires
compile_in-requires c =
    let lent : lent_check c.args.image.now (length c.args.table.now) ≡ given tt = fine_given _ c.in_ok-check_lent.ensures in
    record { table_value = lent; front_value = refl; image_in_bounds = omega (arith, c.kind_count.ensures, c.if-kind_count-le60.true); front_len_bound = omega arith }

pub compile_in-requires-2 : goal.compile_in-requires-2
compile_in-requires-2 c =
    let lent : lent_check c.args.image.now (length c.args.table.now) ≡ given tt = fine_given _ c.in_ok-check_lent.ensures in
    let f = kinds_few _ (λ i. omega (arith, c.shared_slice_known-1.given i)) _ lent in
    record { table_value = lent; front_value = refl; image_in_bounds = omega (arith, f); front_len_bound = omega arith }
