use Rattle.scene_model.proofs.Runs.{no_cycle_later, no_cycle_at}
use Rattle.scene_model.proofs.laws.no_plan_has_a_cycle.Goals as goal

pub returns-clause-after_edits : goal.returns-clause-after_edits
returns-clause-after_edits c = no_cycle_later c.args.scene.now c.args.edits.now

pub returns-clause-at_frame : goal.returns-clause-at_frame
returns-clause-at_frame c = no_cycle_at c.args.scene.now
