use Rattle.std.proofs.Common.{◌≡◌, ◌<◌, None}
use Rattle.bus_list.specs.Visits.{attached_feed}
use Rattle.bus_list.specs.ListViews.{history_of_editor, buses_of_editor}
use Rattle.list_bench.proofs.lists.edit_rounds.Given as goal

abbrev pub invariant-loop-round : goal.invariant-loop-round
invariant-loop-round g l = (l.bus < buses_of_editor l.editor) × (attached_feed (history_of_editor l.editor) l.bus ≡ None)
