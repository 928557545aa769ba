use Rattle.wave_read.proofs.Conclusions.{wave_lawful}
use Rattle.clip_decode.proofs.BlockSums.{frames_of_blocks, frames_of_a_block}
use Rattle.clip_decode.proofs.laws.ima_has_the_frames_of_its_blocks.Goals as goal

pub returns-clause-held : goal.returns-clause-held
returns-clause-held c = λ bytes w said. frames_of_blocks bytes w (wave_lawful bytes w said).lies

pub returns-clause-per_block : goal.returns-clause-per_block
returns-clause-per_block c = λ bytes w said. frames_of_a_block bytes w (wave_lawful bytes w said).lies
