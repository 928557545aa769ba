use Rattle.scene_model.proofs.Ordered.{order_ascends, order_keeps_all, order_keeps_edits, order_keeps_frames, order_keeps_length, order_numbers_rows}
use Rattle.scene_model.proofs.laws.edits_are_ordered_by_frames.Goals as goal

pub returns-clause-length : goal.returns-clause-length
returns-clause-length c = order_keeps_length c.args.rows.now

pub returns-clause-sorted : goal.returns-clause-sorted
returns-clause-sorted c = order_ascends c.args.rows.now

pub returns-clause-frames : goal.returns-clause-frames
returns-clause-frames c = order_keeps_frames c.args.rows.now

pub returns-clause-edits : goal.returns-clause-edits
returns-clause-edits c = order_keeps_edits c.args.rows.now

pub returns-clause-kept : goal.returns-clause-kept
returns-clause-kept c = order_keeps_all c.args.rows.now

pub returns-clause-numbers : goal.returns-clause-numbers
returns-clause-numbers c = order_numbers_rows c.args.rows.now
