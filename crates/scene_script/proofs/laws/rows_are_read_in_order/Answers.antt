use Rattle.scene_script.specs.BusRows.{bus_row}
use Rattle.scene_script.specs.EditRows.{edit_row}
use Rattle.scene_script.specs.NodeRows.{node_row}
use Rattle.scene_script.specs.ResourceRows.{resource_row}
use Rattle.scene_script.proofs.RowsRead.{in_order}
use Rattle.scene_script.proofs.laws.rows_are_read_in_order.Goals as goal

pub returns-clause-resources : goal.returns-clause-resources
returns-clause-resources c = in_order resource_row

pub returns-clause-nodes : goal.returns-clause-nodes
returns-clause-nodes c = λ resources. in_order (node_row resources)

pub returns-clause-buses : goal.returns-clause-buses
returns-clause-buses c = λ nodes. in_order (bus_row nodes)

pub returns-clause-edits : goal.returns-clause-edits
returns-clause-edits c = λ nodes. in_order (edit_row nodes)
