-- The lists of a stage after an edit.
use Rattle.std.proofs.Common.{◌≡◌, ℕ, zero, suc, ◌<◌, ◌^◌, Bool, true, List, [], ◌∷◌, ◌++◌, length, get_or, set, Option, Some, None, refl, sym, ◌∙◌, ap}
use Rattle.std.specs.Prelude.{IfSome, if◌then◌else◌}
use Rattle.std.specs.Option.{option_map}
use Rattle.std.proofs.lemmas.Bool.{lt-ltb}
use Rattle.std.proofs.lemmas.List.{map-set}
use Rattle.bus_list.specs.declared.history.Entry.{Entry}
use Rattle.bus_list.specs.declared.history.Entry.TheVariants.{On, Off}
use Rattle.node_graph.specs.declared.feed.Feed.{Feed}
use Rattle.node_graph.specs.declared.list_changes.ListChange.{ListChange}
use Rattle.node_graph.specs.declared.list_changes.ListChange.TheVariants.{Attached, Detached, Unchanged}
use Rattle.node_graph.specs.ListChanges.{changed, with_edit}
use Rattle.node_graph.specs.ListData.{ListData, is_kept}
use Rattle.live_graph.specs.InputEditors.{EditorData, list_of, lists_of, entered, entered_at, editors_changed}
use Rattle.live_graph.specs.Stages.{HadFewer}

-- the list of an editor
pub list_at : (editors : List (Option EditorData)) (node : ℕ) → get_or (lists_of editors) node None ≡ list_of (get_or editors node None)
list_at [] node = refl
list_at (x ∷ editors) zero = refl
list_at (x ∷ editors) (suc node) = list_at editors node

-- what is asked of a list that is kept is true of it, where it had few edits
pub asked : (P : ListData → Type 0) (o : Option EditorData) → ((list : ListData) → list_of o ≡ Some list → length list.history < 2 ^ 62) → IfSome (list_of o) (λ list. is_kept list ≡ true → P list) → IfSome o (λ d. P d.list)
asked P None few can = tt
asked P (Some d) few can = can (lt-ltb (length d.list.history) (2 ^ 62) (few d.list refl))

pub short : (o : Option EditorData) → ((list : ListData) → list_of o ≡ Some list → length list.history < 2 ^ 62) → IfSome o (λ d. length d.list.history < 2 ^ 62)
short None few = tt
short (Some d) few = few d.list refl

-- ---- the lists that the editors have after a change are the changed ones

one_more : (entry : Entry Feed) (o : Option EditorData) → ((list : ListData) → list_of o ≡ Some list → length list.history < 2 ^ 62) → list_of (option_map (entered entry) o) ≡ option_map (with_edit entry) (list_of o)
one_more entry None few = refl
one_more entry (Some d) few =
    sym (ap (λ (t : Bool). Some (if t then record d.list { history = d.list.history ++ entry ∷ [] } else d.list)) (lt-ltb (length d.list.history) (2 ^ 62) (few d.list refl)))

at_node : (editors : List (Option EditorData)) (node : ℕ) (entry : Entry Feed) → HadFewer (2 ^ 62) (lists_of editors) → lists_of (entered_at editors node entry) ≡ set (lists_of editors) node (option_map (with_edit entry) (get_or (lists_of editors) node None))
at_node editors node entry few =
    let o = get_or editors node None in
    map-set list_of editors node (option_map (entered entry) o)
    ∙ ap (λ (l : Option ListData). set (lists_of editors) node l) (one_more entry o (λ list is. few node list (list_at editors node ∙ is)) ∙ ap (option_map (with_edit entry)) (sym (list_at editors node)))

pub lists_changed : (editors : List (Option EditorData)) (c : ListChange) → HadFewer (2 ^ 62) (lists_of editors) → lists_of (editors_changed editors c) ≡ changed (lists_of editors) c
lists_changed editors (Attached feed to) few = at_node editors to (On feed.bus feed) few
lists_changed editors (Detached bus from) few = at_node editors from (Off bus) few
lists_changed editors Unchanged few = refl
