use Rattle.std.proofs.Common.{◌≡◌, drop, map, length, IsTrue, vec_len}
use Rattle.std.specs.List.{list_all}
use Rattle.toml.specs.View.{table_view}
use Rattle.scene_model.specs.IsScene.{is_bus_row}
use Rattle.scene_script.specs.Checked.{each}
use Rattle.scene_script.specs.BusRows.{bus_row, bus_rows}
use Rattle.scene_script.proofs.bus_rows.bus_rows.Given as goal

abbrev pub invariant-loop-row : goal.invariant-loop-row
invariant-loop-row l = record {
  rest : each (bus_row l.nodes) l.buses.items (map (λ t. table_view t.now) (drop l.row-index l.rows)) ≡ bus_rows l.nodes (map (λ t. table_view t.now) l.rows);
  count : vec_len l.buses ≡ l.row-index;
  are : IsTrue (list_all (is_bus_row (length l.nodes)) l.buses.items);
}
