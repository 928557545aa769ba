use Rattle.std.proofs.Common.{[]}
use Rattle.scene_script.specs.BusRows.{bus_row}
use Rattle.scene_script.specs.EditRows.{edit_row}
use Rattle.scene_script.specs.NodeRows.{node_row}
use Rattle.scene_script.specs.ResourceRows.{resource_row}
use Rattle.scene_script.proofs.FirstFaults.{has_first, first_is, refuses_first, refused_is}
use Rattle.scene_script.proofs.laws.faults_are_the_first.Goals as goal

pub returns-clause-resources : goal.returns-clause-resources
returns-clause-resources c = λ rows f. (has_first resource_row [] rows f, first_is resource_row [] rows f)

pub returns-clause-nodes : goal.returns-clause-nodes
returns-clause-nodes c =
    λ resources rows f. (has_first (node_row resources) [] rows f, first_is (node_row resources) [] rows f)

pub returns-clause-buses : goal.returns-clause-buses
returns-clause-buses c = λ nodes rows f. (has_first (bus_row nodes) [] rows f, first_is (bus_row nodes) [] rows f)

pub returns-clause-edits : goal.returns-clause-edits
returns-clause-edits c = λ nodes rows f. (has_first (edit_row nodes) [] rows f, first_is (edit_row nodes) [] rows f)

pub returns-clause-made : goal.returns-clause-made
returns-clause-made c = λ plan edits f. (refuses_first plan edits f, refused_is plan edits f)
