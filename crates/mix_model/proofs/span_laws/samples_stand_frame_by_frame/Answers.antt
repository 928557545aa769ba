use Rattle.mix_model.proofs.FrameSamples.{samples_are}
use Rattle.mix_model.proofs.span_laws.samples_stand_frame_by_frame.Goals as goal

pub returns : goal.returns
returns c = samples_are
