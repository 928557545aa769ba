use Rattle.std.proofs.Common.{◌≡◌, ◌≤◌, true, vec_len}
use Rattle.std.specs.List.{list_all}
use Rattle.scene_model.specs.IsScene.{is_edit_row}
use Rattle.engine_tests.proofs.random_rows.edits.Given as goal

abbrev pub invariant-loop-number : goal.invariant-loop-number
invariant-loop-number l = record {
  are_edits : list_all (is_edit_row l.nodes) l.edits.items ≡ true;
  few : vec_len l.edits ≤ l.number;
}
