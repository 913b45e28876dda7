use Rattle.lookup.proofs.Ordered.{combine_in}
use Rattle.lookup.proofs.lone.combined.Goals as goal

pub returns : goal.returns
returns c =
    let s = c.args in
    combine_in s.t.now s.rows.now s.twins.now s.code s.l s.r c.in_ok-check_lent.ensures c.from_code.ensures c.in_ok-op.ensures.value c.in_ok-indexed.ensures c.in_ok-indexed-2.ensures c.combined.ensures
