use Rattle.std.proofs.Common.{◌≡◌, ◌≤◌, true, vec_len}
use Rattle.std.specs.List.{list_all}
use Rattle.scene_model.specs.IsScene.{is_bus_row}
use Rattle.node_graph_tests.proofs.scenes.rows.Given as goal

abbrev pub invariant-loop-row : goal.invariant-loop-row
invariant-loop-row l = record {
  are_rows : list_all (is_bus_row l.nodes) l.rows.items ≡ true;
  few : vec_len l.rows ≤ 256;
}
