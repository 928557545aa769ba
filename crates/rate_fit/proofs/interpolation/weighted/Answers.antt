-- The range of a weighted sample.
use Rattle.std.proofs.Common.{arith}
use Rattle.std.proofs.lemmas.Grind.{common_steps}
use Rattle.rate_fit.proofs.Sums.{times_is_sum}
use Rattle.rate_fit.proofs.interpolation.weighted.Goals as goal

pub returns-clause-range : goal.returns-clause-range
returns-clause-range c = times_is_sum c.args.sample _ c.args.weight (grind (arith, common_steps)) c.requires
