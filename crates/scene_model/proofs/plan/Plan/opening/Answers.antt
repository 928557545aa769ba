use Rattle.std.proofs.Common.{◌≡◌, ℕ, ap, subst, None, true, length}
use Rattle.std.specs.List.{list_all}
use Rattle.scene_model.specs.declared.bus_row.BusRow.{BusRow}
use Rattle.scene_model.specs.IsScene.{is_bus_row}
use Rattle.scene_model.proofs.PlanStays.{row_named}
use Rattle.scene_model.proofs.plan.Plan.opening.Goals as goal

-- the default of a read past the end
abbrev no_row : BusRow
no_row = record { node = 0; out = 0; to = None; gain = 0 }

pub apply_row-requires : goal.apply_row-requires
apply_row-requires c =
    let nodes = length c.args.scene.now.nodes in
    let rows = c.as_slice-row-items.result.now in
    let in_scene : list_all (is_bus_row nodes) c.scene.inside.buses ≡ true = subst (λ (n : ℕ). list_all (is_bus_row n) c.scene.inside.buses ≡ true) (ap (λ s. length s.nodes) c.scene.view_is) c.scene.invariant.bus_rows_are in
    let in_rows : list_all (is_bus_row nodes) rows ≡ true = rw c.as_slice-row-items.ensures in_scene in
    rw c.loop-row.invariant.same_nodes (row_named nodes rows c.loop-row.row-index no_row in_rows c.loop-row-test.true)
