use Rattle.scene_model.proofs.Seeks.{can_apply_later}
use Rattle.scene_model.proofs.laws.a_plan_takes_the_edits_of_a_scene.Goals as goal

pub returns : goal.returns
returns c = can_apply_later c.args.scene.now c.args.edits.now c.requires
