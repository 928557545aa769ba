use Rattle.std.proofs.Common.{◌≡◌, ◌≤◌, length, map, take}
use Rattle.std.specs.Prelude.{◌==◌, filter}
use Rattle.scene_model.specs.declared.edit.EditRow.{EditRow}
use Rattle.live_graph.proofs.hand.edits_by.Given as goal

abbrev pub invariant-loop-row : goal.invariant-loop-row
invariant-loop-row l = record {
  edits_are : l.edits.items ≡ map (λ (r : EditRow). r.edit) (filter (λ (r : EditRow). r.editor == l.editor) (take l.row-index l.rows));
  few : length l.edits.items ≤ l.row-index;
}
