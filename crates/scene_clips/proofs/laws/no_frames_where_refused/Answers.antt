use Rattle.scene_clips.proofs.FramesAtRate.{no_clip_frames, no_length}
use Rattle.scene_clips.proofs.laws.no_frames_where_refused.Goals as goal

pub returns-clause-frames : goal.returns-clause-frames
returns-clause-frames c = no_clip_frames

pub returns-clause-length : goal.returns-clause-length
returns-clause-length c = no_length
