use Rattle.std.proofs.Common.{◌≤◌, ◌*◌, arith, rules}
use Rattle.std.proofs.lemmas.Option.{IfSome_then}
use Rattle.vectors.proofs.exponents.agreed.Goals as goal

pub returns : goal.returns
returns c = IfSome_then c.agreed.result {P = λ n. n ≤ 1 * c.args.records} {Q = λ n. n ≤ c.args.records} (c.agreed.ensures 1 (λ p x r q s v e. search (s, e, rules))) (λ n h. omega (arith, h))
