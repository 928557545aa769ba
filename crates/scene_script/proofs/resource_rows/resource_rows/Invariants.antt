use Rattle.std.proofs.Common.{◌≡◌, drop, map, IsTrue, vec_len}
use Rattle.std.specs.List.{list_all}
use Rattle.toml.specs.View.{table_view}
use Rattle.scene_model.specs.IsScene.{is_resource}
use Rattle.scene_script.specs.Checked.{each}
use Rattle.scene_script.specs.ResourceRows.{resource_row, resource_rows}
use Rattle.scene_script.proofs.resource_rows.resource_rows.Given as goal

abbrev pub invariant-loop-row : goal.invariant-loop-row
invariant-loop-row l = record {
  rest : each resource_row l.resources.items (map (λ t. table_view t.now) (drop l.row-index l.rows)) ≡ resource_rows (map (λ t. table_view t.now) l.rows);
  count : vec_len l.resources ≡ l.row-index;
  are : IsTrue (list_all is_resource l.resources.items);
}
