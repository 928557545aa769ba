use Rattle.mix_model.proofs.Moments.{moment_start, order_is, edits_made, frame_played, frames_played}
use Rattle.mix_model.proofs.span_laws.moments_follow_one_another.Goals as goal

pub returns-clause-begins : goal.returns-clause-begins
returns-clause-begins c = moment_start

pub returns-clause-order : goal.returns-clause-order
returns-clause-order c = order_is

pub returns-clause-edits : goal.returns-clause-edits
returns-clause-edits c = edits_made

pub returns-clause-frame : goal.returns-clause-frame
returns-clause-frame c = frame_played

pub returns-clause-frames : goal.returns-clause-frames
returns-clause-frames c = frames_played
