use Rattle.std.proofs.Common.{sym, ap, ◌∙◌, arith, rules}
use borrow.Author.Tests.{not-true, not-false}
use Rattle.laws.proofs.Cases.{cases}
use Rattle.laws.proofs.All.{alls}
use Rattle.dimension.specs.Fraction as F
use Rattle.rules.specs.Table as T
use Rattle.joined.proofs.Wholes.{all_whole_fine}
use Rattle.valid.proofs.exponents.exponents_fine.Goals as goal

pub returns-then-word-ne1 : goal.returns-then-word-ne1
unfolding T.exponents_fine
returns-then-word-ne1 c = search (cases, rules)

pub returns-then-whole_from : goal.returns-then-whole_from
unfolding T.exponents_fine
returns-then-whole_from c =
    let z = all_whole_fine c.args.t.now c.args.p (λ i. omega (arith, c.type_inv.t i)) c.whole_from.ensures c.if-whole_from.true in
    search (cases, sym z, rules) depth 7

pub loop-b-init : goal.loop-b-init
loop-b-init c = search (alls, rules)

pub returns-then-not-declared : goal.returns-then-not-declared
unfolding T.exponents_fine
returns-then-not-declared c =
    let e = c.declared.ensures ∙ ap F.declared c.exponent.ensures in
    search (cases, alls, not-true, e, rules) depth 7

pub loop-b-preserved : goal.loop-b-preserved
loop-b-preserved c =
    let e = c.declared.ensures ∙ ap F.declared c.exponent.ensures in
    search (alls, not-false, e, rules)

pub returns : goal.returns
unfolding T.exponents_fine
returns c = search (cases, alls, rules) depth 7
