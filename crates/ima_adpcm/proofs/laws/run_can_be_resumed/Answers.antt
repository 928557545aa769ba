use Rattle.ima_adpcm.proofs.StateLemmas.{block_state-add}
use Rattle.ima_adpcm.proofs.laws.run_can_be_resumed.Goals as goal

pub returns : goal.returns
returns c = block_state-add
