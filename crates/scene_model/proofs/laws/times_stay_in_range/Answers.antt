use Rattle.scene_model.proofs.TimesInRange.{times_after, times_later, times_at}
use Rattle.scene_model.proofs.laws.times_stay_in_range.Goals as goal

pub returns-clause-after_edit : goal.returns-clause-after_edit
returns-clause-after_edit c = times_after

pub returns-clause-after_edits : goal.returns-clause-after_edits
returns-clause-after_edits c = times_later

pub returns-clause-at_frame : goal.returns-clause-at_frame
returns-clause-at_frame c = times_at
