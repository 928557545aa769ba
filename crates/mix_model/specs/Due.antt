-- The edits of a scene in the order of their frames, and which of them are due.
use Rattle.std.specs.Prelude.{◌≡◌, ◌<◌, ◌≤◌, ℕ, List, [], ◌∷◌, length, map, IsTrue, slice_index_or}
use Rattle.scene_model.specs.declared.edit.Edit.{Edit}
use Rattle.scene_model.specs.declared.edit.Edit.TheVariants.{Attach, Seek}
use Rattle.scene_model.specs.declared.edit.EditRow.{EditRow}
use Rattle.scene_model.specs.declared.order.NumberedEdit.{NumberedEdit}
use Rattle.scene_model.specs.IsPlan.{can_apply}
use Rattle.scene_model.specs.PlanData.{PlanData}
use Rattle.scene_model.specs.Plans.{after}
use Rattle.scene_model.specs.Times.{edits_at}

-- what a read past the end gives
abbrev pub no_edit : NumberedEdit
no_edit = record { number = 0; row = record { at = 0; editor = 0; edit = Attach 0 0 0 } }

abbrev pub rows_of : List NumberedEdit → List EditRow
rows_of edits = map (λ (e : NumberedEdit). e.row) edits

abbrev pub due : List NumberedEdit → ℕ → List Edit
due edits time = edits_at (rows_of edits) time

-- the frame of an edit by its place
abbrev pub frame_at : List NumberedEdit → ℕ → ℕ
frame_at edits k = (slice_index_or edits k no_edit).row.at

-- the place of the first edit that isn't before a frame: those before the place are earlier, and those from it on aren't
pub record IsNext (edits : List NumberedEdit) (time place : ℕ) : Type 0 where
  pub within : place ≤ length edits
  pub earlier : (k : ℕ) → k < place → frame_at edits k < time
  pub waiting : (k : ℕ) → place ≤ k → k < length edits → time ≤ frame_at edits k

-- no edit is before one of an earlier frame
abbrev pub AreInOrder : List NumberedEdit → Type 0
AreInOrder edits = (j k : ℕ) → j ≤ k → k < length edits → frame_at edits j ≤ frame_at edits k

-- each of the edits may be applied after those before it
abbrev pub CanMakeAll : PlanData → List NumberedEdit → Type 0
CanMakeAll p [] = Unit {0}
CanMakeAll p (e ∷ edits) = IsTrue (can_apply p e.row.edit) × CanMakeAll (after p e.row.edit) edits

-- a seek is of a node below this number
abbrev pub SeeksBelow : ℕ → Edit → Type 0
SeeksBelow nodes edit = (node place : ℕ) → edit ≡ Seek node place → node < nodes
