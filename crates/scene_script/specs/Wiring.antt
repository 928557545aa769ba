-- The edits that the rows of a script stand for, made one after the other in a plan of the nodes alone.
use Rattle.std.specs.Prelude.{ℕ, ◌+◌, List, [], ◌∷◌, ◌++◌, map, Result, Ok, Err, if◌then◌else◌}
use Rattle.scene_model.specs.declared.bus_row.BusRow.{BusRow}
use Rattle.scene_model.specs.declared.edit.Edit.{Edit}
use Rattle.scene_model.specs.declared.edit.EditRow.{EditRow}
use Rattle.scene_model.specs.declared.node.Node.{Node}
use Rattle.scene_model.specs.declared.order.NumberedEdit.{NumberedEdit}
use Rattle.scene_model.specs.Opening.{unwired, row_edits}
use Rattle.scene_model.specs.Order.{in_order}
use Rattle.scene_model.specs.PlanData.{PlanData}
use Rattle.scene_model.specs.Plans.{reply, after, is_done}
use Rattle.scene_script.specs.declared.fault.SceneFault.{SceneFault}
use Rattle.scene_script.specs.declared.fault.SceneFault.TheVariants.{EditRefused}
use Rattle.scene_script.specs.declared.fault.TableKind.TheVariants as kinds
use Rattle.scene_script.specs.declared.placed_edit.PlacedEdit.{PlacedEdit}
use Rattle.scene_script.specs.declared.place.Place.{Place}
use Rattle.scene_script.specs.Checked.{◌>>=◌}
use Rattle.scene_script.specs.Fields.{place}

-- an edit with the row that stands for it
abbrev pub placed : Place → Edit → PlacedEdit
placed p edit = record { place = p; edit = edit }

-- the edits of bus rows, where the first row has that number
abbrev pub bus_edits : ℕ → List BusRow → List PlacedEdit
bus_edits row [] = []
bus_edits row (b ∷ buses) = map (placed (place kinds.Bus row)) (row_edits b) ++ bus_edits (row + 1) buses

-- an edit of the script at its row, where rows count from 1
abbrev pub placed_row : NumberedEdit → PlacedEdit
placed_row e = placed (place kinds.Edit (e.number + 1)) e.row.edit

-- those of the bus rows in order, and then the edits in the order of their frames and rows
abbrev pub all_edits : List BusRow → List EditRow → List PlacedEdit
all_edits buses edits = bus_edits 1 buses ++ map placed_row (in_order edits)

-- the edit is done
abbrev pub done : PlanData → PlacedEdit → Result (Unit {0}) SceneFault
done plan e =
    if is_done (reply plan e.edit) then Ok tt else Err (EditRefused e.place.table e.place.row (reply plan e.edit))

-- each is, in the plan after those before it
abbrev pub all_done : PlanData → List PlacedEdit → Result (Unit {0}) SceneFault
all_done plan [] = Ok tt
all_done plan (e ∷ edits) = done plan e >>= λ is_done. all_done (after plan e.edit) edits

-- all edits of a script are done, from the plan of its nodes alone on
unfoldable pub wired : List Node → List BusRow → List EditRow → Result (Unit {0}) SceneFault
wired nodes buses edits = all_done (unwired nodes) (all_edits buses edits)
