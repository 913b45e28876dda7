-- `replay::requests::kept` meets its contract.
use Rattle.std.proofs.Common.{ℕ, ◌∙◌, rules, tests}
use Rattle.std.specs.Prelude.{eqb, drop}
use Rattle.std.proofs.lemmas.Iterator.{YieldsList-from_slice}
use Rattle.std.proofs.lemmas.Iterator.Search.{all_from_yields_List}
use Rattle.replay.specs.Requests.{is_kept, kept}
use Rattle.replay.proofs.Past.{past}
use Rattle.replay.proofs.requests.kept.Goals as goal

pub returns : goal.returns
unfolding kept is_kept
returns c =
    let a = c.args in
    let same = λ (x : ℕ). eqb x 54321 in
    all_from_yields_List same _ _ c.all.result c.all.ensures.ran (YieldsList-from_slice (drop a.n a.twins.now) cc) (λ x b q k. search (rules, tests)) ∙ past same a.n a.twins.now
