use Rattle.mix_fixed.proofs.Raised.{upper_half_is}
use Rattle.mix_fixed.proofs.shares.upper_half.Goals as goal

pub returns-clause-value : goal.returns-clause-value
returns-clause-value c = rw (c.from.ensures, c.from-2.ensures) (upper_half_is c.args.raised c.args.gain)
