-- `compile::compiler::check_declared` meets its contract.
use Rattle.std.proofs.Common.{rules}
use Rattle.std.proofs.lemmas.Result.{err_from_is_err_and}
use Rattle.rules.specs.Catalog.{catalog_in}
use Rattle.rules.specs.Compile.{id_rule, difference_rule, rate_rule}
use Rattle.compile.proofs.Stages.{kinds_told, rule_told, ids_refused, differences_refused, neutral_refused, instant_refused, rates_answer}
use Rattle.compile.proofs.compiler.check_declared.Goals as goal

pub returns-in_err-check_kinds : goal.returns-in_err-check_kinds
returns-in_err-check_kinds c =
    let s = c.args.c.image.now in
    let ids = kinds_told s id_rule c.kind_count-n.ensures (c.in_err-check_kinds.ensures (id_rule (catalog_in s)) (λ k r l p. search rules)) in
    let p = err_from_is_err_and c.from_residual.result c.from_residual.ensures.1 in
    rw (p.1, p.2) (ids_refused (catalog_in s) ids)

pub returns-in_err-check_kinds-2 : goal.returns-in_err-check_kinds-2
returns-in_err-check_kinds-2 c =
    let s = c.args.c.image.now in
    let ids = kinds_told s id_rule c.kind_count-n.ensures (c.in_ok-check_kinds.ensures (id_rule (catalog_in s)) (λ k r l p. search rules)) in
    let differences = kinds_told s difference_rule c.kind_count-n.ensures (c.in_err-check_kinds-2.ensures (difference_rule (catalog_in s)) (λ k r l p. search rules)) in
    let p = err_from_is_err_and c.from_residual-in_err-check_kinds-2.result c.from_residual-in_err-check_kinds-2.ensures.1 in
    rw (p.1, p.2) (differences_refused (catalog_in s) ids differences)

pub returns-in_err-check_dimensionless : goal.returns-in_err-check_dimensionless
returns-in_err-check_dimensionless c =
    let s = c.args.c.image.now in
    let ids = kinds_told s id_rule c.kind_count-n.ensures (c.in_ok-check_kinds.ensures (id_rule (catalog_in s)) (λ k r l p. search rules)) in
    let differences = kinds_told s difference_rule c.kind_count-n.ensures (c.in_ok-check_kinds-2.ensures (difference_rule (catalog_in s)) (λ k r l p. search rules)) in
    let p = err_from_is_err_and c.from_residual-in_err-check_dimensionless.result c.from_residual-in_err-check_dimensionless.ensures.1 in
    rw (p.1, p.2) (neutral_refused (catalog_in s) ids differences (rule_told 12 _ c.in_err-check_dimensionless.ensures))

pub returns-in_err-check_time : goal.returns-in_err-check_time
returns-in_err-check_time c =
    let s = c.args.c.image.now in
    let ids = kinds_told s id_rule c.kind_count-n.ensures (c.in_ok-check_kinds.ensures (id_rule (catalog_in s)) (λ k r l p. search rules)) in
    let differences = kinds_told s difference_rule c.kind_count-n.ensures (c.in_ok-check_kinds-2.ensures (difference_rule (catalog_in s)) (λ k r l p. search rules)) in
    let p = err_from_is_err_and c.from_residual-in_err-check_time.result c.from_residual-in_err-check_time.ensures.1 in
    rw (p.1, p.2) (instant_refused (catalog_in s) ids differences (rule_told 12 _ c.in_ok-check_dimensionless.ensures) (rule_told 44 _ c.in_err-check_time.ensures))

pub returns : goal.returns
returns c =
    let s = c.args.c.image.now in
    let ids = kinds_told s id_rule c.kind_count-n.ensures (c.in_ok-check_kinds.ensures (id_rule (catalog_in s)) (λ k r l p. search rules)) in
    let differences = kinds_told s difference_rule c.kind_count-n.ensures (c.in_ok-check_kinds-2.ensures (difference_rule (catalog_in s)) (λ k r l p. search rules)) in
    let rates = kinds_told s rate_rule c.kind_count-n.ensures (c.check_kinds-3.ensures (rate_rule (catalog_in s)) (λ k r l p. search rules)) in
    rates_answer (catalog_in s) ids differences (rule_told 12 _ c.in_ok-check_dimensionless.ensures) (rule_told 44 _ c.in_ok-check_time.ensures) rates
