use Rattle.std.proofs.Common.{◌≡◌, ◌≤◌, true, vec_len}
use Rattle.std.specs.List.{list_all}
use Rattle.scene_model.specs.IsScene.{is_edit_row}
use Rattle.library_tests.proofs.plans.starts.Given as goal

abbrev pub invariant-loop-editor : goal.invariant-loop-editor
invariant-loop-editor l = record {
  are_edits : list_all (is_edit_row l.nodes) l.edits.items ≡ true;
  few : vec_len l.edits ≤ 64;
}
