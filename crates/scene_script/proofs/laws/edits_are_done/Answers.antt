use Rattle.scene_script.proofs.SceneLaws.{edits_done}
use Rattle.scene_script.proofs.laws.edits_are_done.Goals as goal

pub returns : goal.returns
returns c = edits_done
