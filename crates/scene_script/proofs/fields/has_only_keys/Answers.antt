use Rattle.std.proofs.Common.{◌∙◌}
use Rattle.scene_script.proofs.Keys.{keys_among}
use Rattle.scene_script.proofs.fields.has_only_keys.Goals as goal

-- a map's keys are its members' keys
pub returns : goal.returns
returns c = c.keys_are_among.ensures ∙ keys_among c.args.known.now c.args.table.now.entries
