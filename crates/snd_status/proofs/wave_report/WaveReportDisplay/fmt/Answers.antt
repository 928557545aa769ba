use Rattle.std.proofs.Common.{append_assoc}
use Rattle.snd_status.proofs.wave_report.WaveReportDisplay.fmt.Goals as goal

pub returns-clause-writes : goal.returns-clause-writes
returns-clause-writes g c = λ plain ok.
    let w = rw c.kind_name-kind.ensures at c.write.ensures.writes plain ok in
    simp append_assoc (simp append_assoc at w)
