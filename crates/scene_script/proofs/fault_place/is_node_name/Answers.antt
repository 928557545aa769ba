use Rattle.std.proofs.Common.{◌∙◌}
use Rattle.toml.specs.View.{view}
use Rattle.scene_script.specs.FaultPlaces.{is_row, has_name}
use Rattle.scene_script.proofs.Keys.{any_seen}
use Rattle.scene_script.proofs.fault_place.is_node_name.Goals as goal

pub returns : goal.returns
returns c = c.has_named.ensures ∙ any_seen view (is_row (has_name c.args.name.now)) c.args.nodes.now
