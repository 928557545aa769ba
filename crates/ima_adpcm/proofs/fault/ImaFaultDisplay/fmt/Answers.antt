-- The two numbers are the fault's.
use Rattle.std.proofs.Common.{◌≡◌, ◌++◌, append_assoc, refl, subst}
use Rattle.std.specs.Prelude.{codes}
use Rattle.std.specs.Fmt.{decimal, HasWritten}
use Rattle.ima_adpcm.specs.Faults.{fault_text}
use Rattle.ima_adpcm.specs.declared.fault.ImaFault.{ImaFault}
use Rattle.ima_adpcm.specs.declared.fault.ImaFault.TheVariants.{StepIndex}
use Rattle.ima_adpcm.specs.contracts.fault.ImaFault.{enum}
use borrow.Enum.Total.{values_d}
use Rattle.ima_adpcm.proofs.fault.ImaFaultDisplay.fmt.Goals as goal

written : (fault : ImaFault) → codes "channel " ++ decimal (values_d enum 0 (0, (0, tt)) fault).0 ++ codes " has step index "
    ++ decimal (values_d enum 0 (0, (0, tt)) fault).1.0 ++ codes ", above 88" ≡ fault_text fault
written (StepIndex channel found) = refl

pub returns-clause-writes : goal.returns-clause-writes
returns-clause-writes g c = λ plain ok.
    let w = c.write.ensures.writes plain ok in
    subst (λ text. HasWritten {W = g.row.W.Denot} g.W.Write.write_str_gives c.args.f.now text c.write.new.self)
    (written c.args.self.now) (simp append_assoc w)
