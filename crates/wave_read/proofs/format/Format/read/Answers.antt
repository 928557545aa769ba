use Rattle.std.proofs.Common.{rules}
use Rattle.wave_read.proofs.Formats.{format_lawful}
use Rattle.wave_read.specs.Format.{format_of}
use Rattle.wave_read.proofs.format.Format.read.Goals as goal

pub returns-clause-lawful : goal.returns-clause-lawful
unfolding format_of
returns-clause-lawful c = format_lawful c.args.body.now _ (search rules)
