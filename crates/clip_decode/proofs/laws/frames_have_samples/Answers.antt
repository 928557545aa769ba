use Rattle.clip_decode.specs.Samples.{sample_of}
use Rattle.clip_decode.specs.Frames.{frames}
use Rattle.clip_decode.proofs.FrameLists.{has_samples}
use Rattle.clip_decode.proofs.laws.frames_have_samples.Goals as goal

pub returns : goal.returns
unfolding frames
returns c = λ bytes w said. rw said (has_samples (sample_of bytes w) w.frames w.channels)
