use Rattle.snd_io.proofs.PrefixLemmas.{IsPrefix-take}
use Rattle.snd_io.proofs.snag.first_bytes.Goals as goal

pub returns-clause-prefix : goal.returns-clause-prefix
returns-clause-prefix c = IsPrefix-take c.min.result c.args.bytes.now
