use Rattle.std.proofs.Common.{◌≡◌, drop}
use Rattle.scene_model.specs.Wiring.{target}
use Rattle.scene_model.proofs.bus.target.Given as goal

abbrev pub invariant-loop-bus : goal.invariant-loop-bus
invariant-loop-bus l = target (drop l.bus-index l.buses) l.node l.out ≡ target l.buses l.node l.out
