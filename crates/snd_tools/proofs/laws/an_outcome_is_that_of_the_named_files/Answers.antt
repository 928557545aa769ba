use Rattle.snd_tools.proofs.NamedFiles.{outcome-same}
use Rattle.snd_tools.proofs.laws.an_outcome_is_that_of_the_named_files.Goals as goal

pub returns : goal.returns
returns c = outcome-same
