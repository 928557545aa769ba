use Rattle.std.proofs.Common.{◌≡◌, drop, ◌++◌, map}
use Rattle.scene_script.specs.Wiring.{placed_row, all_edits}
use Rattle.scene_script.proofs.placed_edit.all_edits.Given as goal

abbrev pub invariant-loop-edit : goal.invariant-loop-edit
invariant-loop-edit l = l.all.items ++ map placed_row (drop l.edit-index l.edit-items) ≡ all_edits l.buses l.edits
