-- What contracts see of the editors of the lists of all inputs.
use Rattle.std.specs.Prelude.{ℕ, List, [], ◌∷◌, ◌++◌, map, Option, None, slice_index_or, slice_set}
use Rattle.std.specs.Option.{option_map}
use Rattle.atomic_table.specs.Seated.{TableId}
use Rattle.bus_list.specs.declared.editor.Editor.{Editor}
use Rattle.bus_list.specs.declared.history.Entry.{Entry}
use Rattle.bus_list.specs.declared.history.Entry.TheVariants.{On, Off}
use Rattle.bus_list.specs.ListViews.{history_of_editor, buses_of_editor, list_of_editor}
use Rattle.node_graph.specs.declared.feed.Feed.{Feed}
use Rattle.node_graph.specs.declared.list_changes.ListChange.{ListChange}
use Rattle.node_graph.specs.declared.list_changes.ListChange.TheVariants.{Attached, Detached, Unchanged}
use Rattle.node_graph.specs.ListData.{ListData}

-- which list it edits, and what that is
pub record EditorData : Type 0 where
  pub table : TableId
  pub list : ListData

abbrev pub editor_data : Editor Feed → EditorData
editor_data e = record { table = list_of_editor e; list = record { numbers = buses_of_editor e; history = history_of_editor e } }

-- the list, if there is an editor
abbrev pub list_of : Option EditorData → Option ListData
list_of editor = option_map (λ (d : EditorData). d.list) editor

abbrev pub lists_of : List (Option EditorData) → List (Option ListData)
lists_of editors = map list_of editors

-- the editor after one edit more
abbrev pub entered : Entry Feed → EditorData → EditorData
entered entry d = record d { list = record d.list { history = d.list.history ++ entry ∷ [] } }

abbrev pub entered_at : List (Option EditorData) → ℕ → Entry Feed → List (Option EditorData)
entered_at editors node entry = slice_set editors node (option_map (entered entry) (slice_index_or editors node None))

-- the editors after a change of one list
abbrev pub editors_changed : List (Option EditorData) → ListChange → List (Option EditorData)
editors_changed editors (Attached feed to) = entered_at editors to (On feed.bus feed)
editors_changed editors (Detached bus from) = entered_at editors from (Off bus)
editors_changed editors Unchanged = editors
