use Rattle.std.proofs.Common.{◌≡◌, drop, map, length, IsTrue, vec_len}
use Rattle.std.specs.List.{list_all}
use Rattle.toml.specs.View.{table_view}
use Rattle.scene_model.specs.IsScene.{is_node}
use Rattle.scene_script.specs.Checked.{each}
use Rattle.scene_script.specs.NodeRows.{node_row, node_rows}
use Rattle.scene_script.proofs.node_rows.node_rows.Given as goal

abbrev pub invariant-loop-row : goal.invariant-loop-row
invariant-loop-row l = record {
  rest : each (node_row l.resources) l.nodes.items (map (λ t. table_view t.now) (drop l.row-index l.rows)) ≡ node_rows l.resources (map (λ t. table_view t.now) l.rows);
  count : vec_len l.nodes ≡ l.row-index;
  are : IsTrue (list_all (is_node (length l.resources)) l.nodes.items);
}
