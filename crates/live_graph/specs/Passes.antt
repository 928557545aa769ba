-- The passes of a run's inputs.
use Rattle.std.specs.Prelude.{◌≡◌, ◌<◌, ℕ, false, List, length, IfSome, Option, None, slice_index_or}
use Rattle.bus_list.specs.declared.pass.Pass.{Pass}
use Rattle.bus_list.specs.PassViews.{is_visiting, list_of_pass, start_of}
use Rattle.node_graph.specs.declared.feed.Feed.{Feed}
use Rattle.live_graph.specs.InputEditors.{EditorData}

-- no visit of the pass is open, and it is of that list and has seen what the list was opened with
pub record IsPassFrom (pass : Pass Feed) (opened : EditorData) : Type 0 where
  pub shut : is_visiting pass ≡ false
  pub list_is : opened.table ≡ list_of_pass pass
  pub start_is : start_of pass ≡ length opened.list.history

-- one pass for each input that was opened so, in order
pub record ArePasses (opened : List (Option EditorData)) (passes : List (Pass Feed)) : Type 0 where
  pub one_each : length passes ≡ length opened
  pub each_is : (node : ℕ) (d : Pass Feed) → node < length passes → IfSome (slice_index_or opened node None) (IsPassFrom (slice_index_or passes node d))
