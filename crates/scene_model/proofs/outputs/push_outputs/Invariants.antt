use Rattle.std.proofs.Common.{◌≡◌, ◌++◌}
use Rattle.scene_model.specs.Opening.{outputs_of}
use Rattle.scene_model.proofs.outputs.push_outputs.Given as goal

abbrev pub invariant-loop-out : goal.invariant-loop-out
invariant-loop-out l = l.buses.items ≡ l.initial.buses.items ++ outputs_of l.node l.out
