use Rattle.wave_read.proofs.Conclusions.{wave_lawful}
use Rattle.wave_read.proofs.laws.a_wave_lies_in_its_file.Goals as goal

pub returns : goal.returns
returns c = wave_lawful
