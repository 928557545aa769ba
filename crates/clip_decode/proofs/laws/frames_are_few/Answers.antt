use Rattle.wave_read.proofs.Conclusions.{wave_lawful}
use Rattle.clip_decode.proofs.Limits.{few_frames}
use Rattle.clip_decode.proofs.laws.frames_are_few.Goals as goal

pub returns : goal.returns
returns c = λ bytes w said. few_frames bytes w (wave_lawful bytes w said).lies
