use Rattle.std.proofs.Common.{◌≡◌}
use Rattle.bus_list.specs.ListViews.{list_of_editor}
use Rattle.bus_list_tests.proofs.many_edits.edit_many.Given as goal

abbrev pub invariant-loop : goal.invariant-loop
invariant-loop g l = list_of_editor l.recorder.editor ≡ list_of_editor l.initial.recorder.editor
