-- The table is the formula at each of the 256 codes, by computing both.
use Rattle.std.proofs.Common.{arith, refl}
use Rattle.g711.specs.ALaw.{alaw}
use Rattle.g711.specs.declared.a_law.TheConstants.{ALAW}
use Rattle.g711.proofs.Tables.{entry}
use Rattle.g711.proofs.a_law.alaw.Goals as goal

pub returns : goal.returns
unfolding alaw
returns c = entry alaw c.args.code ALAW (omega arith) refl refl
