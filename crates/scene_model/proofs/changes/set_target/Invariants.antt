use Rattle.scene_model.specs.Wiring.{bus_with_target}
use Rattle.scene_model.proofs.Steps.{IsOver}
use Rattle.scene_model.proofs.changes.set_target.Given as goal

abbrev pub invariant-loop-bus : goal.invariant-loop-bus
invariant-loop-bus l = IsOver (bus_with_target l.node l.out l.to) l.bus-index l.initial.buses l.buses
