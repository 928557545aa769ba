use Rattle.scene_script.proofs.SceneLaws.{resource_names_distinct, node_names_distinct}
use Rattle.scene_script.proofs.laws.names_are_distinct.Goals as goal

pub returns-clause-resources : goal.returns-clause-resources
returns-clause-resources c = resource_names_distinct

pub returns-clause-nodes : goal.returns-clause-nodes
returns-clause-nodes c = node_names_distinct
