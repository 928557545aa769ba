use Rattle.mix_model.proofs.RoundTrip.{wave_is, frames_24, frames_16, mix_wave, mix_frames}
use Rattle.mix_model.proofs.laws.what_is_written_is_read_back.Goals as goal

pub returns-clause-wave : goal.returns-clause-wave
returns-clause-wave c = wave_is

pub returns-clause-frames : goal.returns-clause-frames
returns-clause-frames c = frames_24

pub returns-clause-frames_16 : goal.returns-clause-frames_16
returns-clause-frames_16 c = frames_16

pub returns-clause-mix_wave : goal.returns-clause-mix_wave
returns-clause-mix_wave c = mix_wave

pub returns-clause-mix : goal.returns-clause-mix
returns-clause-mix c = mix_frames
