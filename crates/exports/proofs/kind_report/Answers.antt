-- `exports::kind_report` meets its contract.
use Rattle.exports.proofs.Pointed.{kind_promised, number_promised}
use Rattle.exports.proofs.kind_report.Goals as goal

pub returns-then-kinded : goal.returns-then-kinded
returns-then-kinded c =
    let given = kind_promised _ _ _ _ c.if-kinded.true c.kind_part-n.ensures c.kind_start.ensures c.write.ensures.value c.write.ensures.out_after in
    record { value = given.0; part_after = given.1.0; part_after_2 = given.1.1 }

pub returns : goal.returns
returns c =
    let given = number_promised _ _ _ _ c.if-kinded.false c.write-2.ensures.value c.write-2.ensures.out_after in
    record { value = given.0; part_after = given.1.0; part_after_2 = given.1.1 }
