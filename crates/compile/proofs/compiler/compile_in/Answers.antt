-- `compile::compiler::compile_in` meets its contract.
use Rattle.std.proofs.lemmas.Result.{err_from_is_err_and}
use Rattle.std.proofs.Common.{arith, length}
use Rattle.guarantees.specs.Images.{Bytes}
use Rattle.compile.proofs.Told.{fine_given}
use Rattle.compile.proofs.Stages.{rules_stop, all_compiled}
use Rattle.compile.proofs.Readied.{kinds_few, rows_few, room_enough, named_made, rows_made, rows_long, front_long, front_read, whole_made}
use Rattle.compile.proofs.compiler.compile_in.Goals as goal

pub invariant_of-check_rules : goal.invariant_of-check_rules
invariant_of-check_rules c =
    let s = c.args.image.now in
    let room = length c.args.table.now in
    let lent = c.requires.table_value in
    let bytes : Bytes s = λ i. omega (arith, c.type_inv.image i) in
    let front = c.requires.front_value in
    let inside = c.requires.image_in_bounds in
    let few = c.requires.front_len_bound in
    let e = c.table_words-written.ensures in
    record {
      reads = front_read s bytes room lent front inside few e.t_after;
      rows_value = rows_made s bytes room lent front inside few e.rows_value;
      named_value = named_made s bytes room lent front inside few e.named_value;
      few_kinds = kinds_few s bytes room lent;
      few_rows = rows_few s bytes room lent;
    }

pub returns-in_err-check_rules : goal.returns-in_err-check_rules
returns-in_err-check_rules c =
    let given = rules_stop _ _ c.requires.table_value c.in_err-check_rules.ensures in
    let p = err_from_is_err_and c.from_residual.result c.from_residual.ensures.1 in
    record { value = rw (p.1, p.2) given.0; table_after = given.1 }

pub write-requires : goal.write-requires
write-requires c =
    let s = c.args.image.now in
    let room = length c.args.table.now in
    let lent = c.requires.table_value in
    let bytes : Bytes s = λ i. omega (arith, c.type_inv.image i) in
    let front = c.requires.front_value in
    let inside = c.requires.image_in_bounds in
    let few = c.requires.front_len_bound in
    let e = c.table_words-written.ensures in
    record { front_len_bound = omega (arith, front_long s bytes room lent front inside few e.t_after, few); rows_len = rows_long s bytes room lent front inside few e.rows_value; in_bounds = room_enough s bytes room lent }

pub returns : goal.returns
returns c =
    let s = c.args.image.now in
    let room = length c.args.table.now in
    let lent = c.requires.table_value in
    let bytes : Bytes s = λ i. omega (arith, c.type_inv.image i) in
    let front = c.requires.front_value in
    let inside = c.requires.image_in_bounds in
    let few = c.requires.front_len_bound in
    let e = c.table_words-written.ensures in
    let given = all_compiled _ _ lent (fine_given _ c.in_ok-check_rules.ensures) (whole_made s bytes room lent front inside few e.t_after e.rows_value) c.write.ensures in
    record { value = given.0; table_after = given.1 }
