use Rattle.std.proofs.Common.{◌≡◌, ◌+◌, drop, ◌++◌}
use Rattle.scene_script.specs.Wiring.{bus_edits}
use Rattle.scene_script.proofs.placed_edit.push_buses.Given as goal

abbrev pub invariant-loop-number : goal.invariant-loop-number
invariant-loop-number l = l.all.items ++ bus_edits (l.number + 1) (drop l.number l.buses) ≡ l.initial.all.items ++ bus_edits 1 l.buses
