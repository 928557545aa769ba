use Rattle.mix_model.proofs.Written.{frames-join}
use Rattle.mix_model.proofs.span_laws.frames_can_be_split.Goals as goal

pub returns : goal.returns
returns c = frames-join
