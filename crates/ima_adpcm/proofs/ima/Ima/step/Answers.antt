-- The new state is the definition's, part by part.
use Rattle.std.proofs.Common.{rules}
use Rattle.ima_adpcm.specs.Decoder.{after}
use Rattle.ima_adpcm.proofs.ima.Ima.step.Goals as goal

pub returns-clause-state : goal.returns-clause-state
unfolding after
returns-clause-state c = search rules
