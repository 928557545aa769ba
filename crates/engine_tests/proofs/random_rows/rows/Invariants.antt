use Rattle.std.proofs.Common.{◌≡◌, ◌≤◌, true, vec_len}
use Rattle.std.specs.List.{list_all}
use Rattle.scene_model.specs.IsScene.{is_bus_row}
use Rattle.engine_tests.proofs.random_rows.rows.Given as goal

abbrev pub invariant-loop-number : goal.invariant-loop-number
invariant-loop-number l = record {
  are_rows : list_all (is_bus_row l.nodes) l.rows.items ≡ true;
  few : vec_len l.rows ≤ l.number;
}
