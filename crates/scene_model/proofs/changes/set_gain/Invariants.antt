use Rattle.scene_model.specs.Wiring.{bus_with_gain}
use Rattle.scene_model.proofs.Steps.{IsOver}
use Rattle.scene_model.proofs.changes.set_gain.Given as goal

abbrev pub invariant-loop-bus : goal.invariant-loop-bus
invariant-loop-bus l = IsOver (bus_with_gain l.node l.out l.gain) l.bus-index l.initial.buses l.buses
