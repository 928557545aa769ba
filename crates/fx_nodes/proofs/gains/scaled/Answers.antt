-- The range of a scaled sample.
use Rattle.std.proofs.Common.{arith}
use Rattle.std.proofs.lemmas.Grind.{common_steps}
use Rattle.mix_fixed.proofs.Rounding.{scale_range}
use Rattle.fx_nodes.proofs.gains.scaled.Goals as goal

pub returns-clause-range : goal.returns-clause-range
returns-clause-range c = scale_range c.args.x _ c.args.gain (grind (arith, common_steps)) c.requires.sample c.requires.gain
