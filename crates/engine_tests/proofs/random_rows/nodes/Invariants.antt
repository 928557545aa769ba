use Rattle.std.proofs.Common.{◌≡◌, ◌≤◌, ◌*◌, true, vec_len}
use Rattle.std.specs.List.{list_all}
use Rattle.scene_model.specs.Buses.{bus_count}
use Rattle.scene_model.specs.IsScene.{is_node}
use Rattle.engine_tests.proofs.random_rows.nodes.Given as goal

abbrev pub invariant-loop-number : goal.invariant-loop-number
invariant-loop-number l = record {
  are_nodes : list_all (is_node 3) l.nodes.items ≡ true;
  few : vec_len l.nodes ≤ l.number;
  few_buses : bus_count l.nodes.items ≤ 4 * vec_len l.nodes;
}
