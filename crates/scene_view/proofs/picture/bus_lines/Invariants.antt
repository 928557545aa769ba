use Rattle.std.proofs.Common.{string_bytes, ◌≡◌, take}
use Rattle.std.specs.List.{flat_map}
use Rattle.scene_view.specs.Wiring.{bus_line}
use Rattle.scene_view.proofs.picture.bus_lines.Given as goal

abbrev pub invariant-loop-bus : goal.invariant-loop-bus
invariant-loop-bus l = string_bytes l.text ≡ flat_map (bus_line l.plan l.frame) (take l.bus-index l.bus-items)
