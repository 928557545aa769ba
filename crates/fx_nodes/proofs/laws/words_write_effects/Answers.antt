use Rattle.fx_nodes.proofs.Written.{effect_read, effect_written}
use Rattle.fx_nodes.proofs.laws.words_write_effects.Goals as goal

pub returns-clause-read : goal.returns-clause-read
returns-clause-read c = effect_read

pub returns-clause-written : goal.returns-clause-written
returns-clause-written c = effect_written
