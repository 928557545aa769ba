-- The fault of the file.
use Rattle.std.proofs.Common.{◌≡◌, ◌∙◌, Ok, Err, ap}
use Rattle.wave_read.specs.Wave.{wave}
use Rattle.snd_tools.specs.Reading.{◌>>=◌, file_or_fault}
use Rattle.snd_tools.proofs.fetching.sound_of.Goals as goal

pub returns-in-Err-Fault-clause-value : goal.returns-in-Err-Fault-clause-value
returns-in-Err-Fault-clause-value c =
    let refused : wave c.args.bytes.items ≡ Err c.in-Err-Fault.fault = (c.new.ensures.fault c.in-Err-Fault.fault).0 (c.in-Err-Fault.is ∙ ap Err c.in-Err-Fault.field-0-is) in
    ap (λ w. file_or_fault 0 w >>= λ said. Ok c.args.bytes.items) refused
