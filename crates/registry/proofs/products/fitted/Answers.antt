-- `registry::products::fitted` meets its contract: several kinds fit.
use Rattle.rules.specs.Table.{rows_of}
use Rattle.registry.proofs.Settled.{fitted_several}
use Rattle.registry.proofs.products.fitted.Goals as goal

pub returns-in-Second : goal.returns-in-Second
returns-in-Second c = fitted_several _ (rows_of c.args.rows.now) _ _ _ _ c.joined_words-w.ensures.words_value c.only_fit.ensures c.in-Second.is c.several.ensures
