use Rattle.scene_model.proofs.AllEdits.{plan_of_all_edits}
use Rattle.scene_model.proofs.laws.plan_is_all_edits_so_far.Goals as goal

pub returns : goal.returns
returns c = plan_of_all_edits c.args.scene.now
