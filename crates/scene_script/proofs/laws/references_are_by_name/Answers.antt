use Rattle.scene_script.proofs.References.{resource_numbers, node_numbers}
use Rattle.scene_script.proofs.laws.references_are_by_name.Goals as goal

pub returns-clause-resources : goal.returns-clause-resources
returns-clause-resources c = resource_numbers

pub returns-clause-nodes : goal.returns-clause-nodes
returns-clause-nodes c = node_numbers
