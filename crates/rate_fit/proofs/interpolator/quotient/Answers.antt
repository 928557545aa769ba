-- The product by the reciprocal is the quotient.
use Rattle.std.proofs.Common.{◌^◌}
use Rattle.mix_fixed.proofs.Rounding.{quotient_below}
use Rattle.rate_fit.proofs.Reciprocals.{reciprocal_quotient}
use Rattle.rate_fit.specs.Blend.{IsReciprocal}
use Rattle.rate_fit.proofs.interpolator.quotient.Goals as goal

pub returns-clause-quotient : goal.returns-clause-quotient
returns-clause-quotient c =
    let is : IsReciprocal c.args.output_rate c.args.reciprocal = record {
      some = c.requires.some;
      most = c.requires.most;
      value = c.requires.reciprocal;
    } in
    rw (c.from.ensures, c.from-2.ensures) (reciprocal_quotient c.args.sum c.args.output_rate c.args.reciprocal is c.requires.within)

pub returns-clause-range : goal.returns-clause-range
returns-clause-range c =
    let is : IsReciprocal c.args.output_rate c.args.reciprocal = record {
      some = c.requires.some;
      most = c.requires.most;
      value = c.requires.reciprocal;
    } in
    rw (c.from.ensures, c.from-2.ensures, reciprocal_quotient c.args.sum c.args.output_rate c.args.reciprocal is c.requires.within) (
    quotient_below c.args.sum (2 ^ 24) c.args.output_rate c.requires.some c.requires.within
    )
