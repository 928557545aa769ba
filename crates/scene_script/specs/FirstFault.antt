-- Where the first fault of some rows is.
use Rattle.std.specs.Prelude.{◌≡◌, List, ◌∷◌, ◌++◌, map, fold, Result, Ok, Err}
use Rattle.scene_model.specs.PlanData.{PlanData}
use Rattle.scene_model.specs.Plans.{after}
use Rattle.scene_script.specs.declared.fault.SceneFault.{SceneFault}
use Rattle.scene_script.specs.declared.placed_edit.PlacedEdit.{PlacedEdit}
use Rattle.scene_script.specs.Checked.{each}
use Rattle.scene_script.specs.Wiring.{done, all_done}

-- Some row has the fault, by what the rows before it give, and each of those is read: none of them has a fault.
pub record HasFirst {A B : Type 0} (one : List B → A → Result B SceneFault) (start : List B) (rows : List A) (f : SceneFault) : Type 0 where
  pub before : List A
  pub row : A
  pub behind : List A
  pub rows_are : rows ≡ before ++ row ∷ behind
  pub read : List B
  pub before_is : each one start before ≡ Ok read
  pub row_is : one read row ≡ Err f

-- Some edit has the fault, in the plan after those before it, and each of those is done.
pub record RefusesFirst (plan : PlanData) (edits : List PlacedEdit) (f : SceneFault) : Type 0 where
  pub before : List PlacedEdit
  pub edit : PlacedEdit
  pub behind : List PlacedEdit
  pub edits_are : edits ≡ before ++ edit ∷ behind
  pub before_is : all_done plan before ≡ Ok tt
  pub edit_is : done (fold after plan (map (λ (e : PlacedEdit). e.edit) before)) edit ≡ Err f
