use Rattle.std.proofs.Common.{◌≡◌, drop, map, length, IsTrue, vec_len}
use Rattle.std.specs.List.{list_all}
use Rattle.toml.specs.View.{table_view}
use Rattle.scene_model.specs.IsScene.{is_edit_row}
use Rattle.scene_script.specs.Checked.{each}
use Rattle.scene_script.specs.EditRows.{edit_row, edit_rows}
use Rattle.scene_script.proofs.edit_rows.edit_rows.Given as goal

abbrev pub invariant-loop-row : goal.invariant-loop-row
invariant-loop-row l = record {
  rest : each (edit_row l.nodes) l.edits.items (map (λ t. table_view t.now) (drop l.row-index l.rows)) ≡ edit_rows l.nodes (map (λ t. table_view t.now) l.rows);
  count : vec_len l.edits ≡ l.row-index;
  are : IsTrue (list_all (is_edit_row (length l.nodes)) l.edits.items);
}
