use Rattle.scene_model.proofs.Kept.{kinds_after, outputs_after}
use Rattle.scene_model.proofs.laws.edits_keep_kinds_and_outputs.Goals as goal

pub returns-clause-kinds : goal.returns-clause-kinds
returns-clause-kinds c = kinds_after c.args.plan.now c.args.edit.now

pub returns-clause-outputs : goal.returns-clause-outputs
returns-clause-outputs c = outputs_after c.args.plan.now c.args.edit.now
