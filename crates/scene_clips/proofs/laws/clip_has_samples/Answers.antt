use Rattle.scene_clips.proofs.FramesAtRate.{list_has_samples}
use Rattle.scene_clips.proofs.laws.clip_has_samples.Goals as goal

pub returns : goal.returns
returns c = list_has_samples
