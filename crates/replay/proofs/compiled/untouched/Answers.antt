-- `replay::compiled::untouched` meets its contract.
use Rattle.std.proofs.Common.{ℕ, ◌∙◌, rules, tests}
use Rattle.std.specs.Prelude.{eqb, drop}
use Rattle.std.proofs.lemmas.Iterator.{YieldsList-from_slice}
use Rattle.std.proofs.lemmas.Iterator.Search.{all_from_yields_List}
use Rattle.replay.specs.Compiled.{is_untouched, untouched}
use Rattle.replay.proofs.Past.{past}
use Rattle.replay.proofs.compiled.untouched.Goals as goal

pub returns : goal.returns
unfolding untouched is_untouched
returns c =
    let a = c.args in
    let same = λ (x : ℕ). eqb x 2863311530 in
    all_from_yields_List same _ _ c.all.result c.all.ensures.ran (YieldsList-from_slice (drop a.n a.t.now) cc) (λ x b q k. search (rules, tests)) ∙ past same a.n a.t.now
