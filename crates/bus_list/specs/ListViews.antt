-- What contracts see of a list and of its editor.
use Rattle.std.specs.Prelude.{◌≡◌, ℕ, List}
use Rattle.atomic_table.specs.Seated.{TableId}
use Rattle.bus_list.specs.declared.history.Entry.{Entry}
use Rattle.bus_list.specs.declared.both.Both.{Both}
use Rattle.bus_list.specs.declared.editor.Editor.{Editor}
use Rattle.bus_list.specs.declared.pass.Pass.{Pass}
use Rattle.bus_list.specs.PassViews.{list_of_pass}

module _ {F : Type 0} where
  -- All edits so far, in order.
  abbrev pub history_of : Both F → List (Entry F)
  history_of b = b.list_editor.seat.me.0.editing.history

  abbrev pub history_of_editor : Editor F → List (Entry F)
  history_of_editor e = e.list_editor.seat.me.0.editing.history

  -- For how many buses the list was made.
  abbrev pub buses_of_list : Both F → ℕ
  buses_of_list b = b.list_editor.table.buses

  abbrev pub buses_of_editor : Editor F → ℕ
  buses_of_editor e = e.list_editor.table.buses

  -- Which list it is.
  abbrev pub list_of_editor : Editor F → TableId
  list_of_editor e = e.list_editor.seat.table_id

  -- The editor and the pass are of one list.
  abbrev pub OneList : Editor F → Pass F → Type 0
  OneList e p = list_of_editor e ≡ list_of_pass p
