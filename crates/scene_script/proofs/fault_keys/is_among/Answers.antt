use Rattle.std.proofs.Common.{◌∙◌}
use Rattle.scene_script.proofs.Keys.{any_known}
use Rattle.scene_script.proofs.fault_keys.is_among.Goals as goal

pub returns : goal.returns
returns c = c.contains.ensures.value ∙ any_known c.args.key.now c.args.keys.now
