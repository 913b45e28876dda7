-- `dimension::dimensions::Dimensions::pow` meets its contract: the exponents are multiplied by one and the same.
use Rattle.std.proofs.Common.{◌∙◌, ap, rules, arith}
use Rattle.dimension.proofs.Places.{zip_replicate}
use Rattle.dimension.specs.Fraction as F
use Rattle.dimension.specs.Dimension as D
use Rattle.dimension.proofs.dimensions.Dimensions.pow.Goals as goal

pub returns : goal.returns
unfolding D.power
returns c =
    c.each.ensures F.product (λ k d x h e. search rules)
    ∙ ap D.outcome (zip_replicate F.product c.args.self.powers 12 c.args.exponent (omega arith))
