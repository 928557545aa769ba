-- The table is the formula at each of the 256 codes, by computing both.
use Rattle.std.proofs.Common.{arith, refl}
use Rattle.g711.specs.MuLaw.{ulaw}
use Rattle.g711.specs.declared.mu_law.TheConstants.{ULAW}
use Rattle.g711.proofs.Tables.{entry}
use Rattle.g711.proofs.mu_law.ulaw.Goals as goal

pub returns : goal.returns
unfolding ulaw
returns c = entry ulaw c.args.code ULAW (omega arith) refl refl
