use Rattle.std.proofs.Common.{rules}
use Rattle.ima_adpcm.specs.Quantizer.{step_sizes}
use Rattle.ima_adpcm.proofs.quantizer.step_size.Goals as goal

pub returns : goal.returns
unfolding step_sizes
returns c = search rules
