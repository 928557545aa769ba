use Rattle.std.proofs.Common.{◌≡◌, drop, map}
use Rattle.toml.specs.View.{table_view, view}
use Rattle.scene_script.specs.Checked.{each}
use Rattle.scene_script.specs.TableRows.{table_of, all_tables}
use Rattle.scene_script.proofs.table_rows.all_tables.Given as goal

abbrev pub invariant-loop-item : goal.invariant-loop-item
invariant-loop-item l =
    each (λ before d. table_of l.place d) (map (λ t. table_view t.now) l.tables.items) (map view (drop l.item-index l.items)) ≡ all_tables l.place (map view l.items)
