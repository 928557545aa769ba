use Rattle.std.proofs.Common.{◌≡◌, ◌<◌, None}
use Rattle.bus_list.specs.Visits.{attached_feed}
use Rattle.bus_list.specs.ListViews.{history_of_editor, buses_of_editor}
use Rattle.list_bench.proofs.beside.edit_until.Given as goal

abbrev pub invariant-loop : goal.invariant-loop
invariant-loop g l = (goal.iterator-loop g).can_next l.iterator' × (goal.iterator-loop g).is_finite l.iterator'
    × (l.bus < buses_of_editor l.editor) × (attached_feed (history_of_editor l.editor) l.bus ≡ None)
