use Rattle.std.proofs.Common.{◌≡◌, ◌≤◌, ◌*◌, true, vec_len}
use Rattle.std.specs.List.{list_all}
use Rattle.scene_model.specs.Buses.{bus_count}
use Rattle.scene_model.specs.IsScene.{is_node}
use Rattle.node_graph_tests.proofs.scenes.nodes.Given as goal

abbrev pub invariant-loop-kind : goal.invariant-loop-kind
invariant-loop-kind l = record {
  are_nodes : list_all (is_node 1) l.nodes.items ≡ true;
  few : vec_len l.nodes ≤ 64;
  few_buses : bus_count l.nodes.items ≤ 4 * vec_len l.nodes;
}
