use Rattle.ima_adpcm.proofs.StateLemmas.{predictors-block}
use Rattle.ima_adpcm.proofs.laws.samples_are_predictors.Goals as goal

pub returns : goal.returns
returns c = predictors-block
