use Rattle.std.proofs.Common.{◌≡◌, ◌++◌, drop}
use Rattle.scene_model.specs.Opening.{all_outputs}
use Rattle.scene_model.proofs.outputs.unattached_outputs.Given as goal

abbrev pub invariant-loop-number : goal.invariant-loop-number
invariant-loop-number l = l.buses.items ++ all_outputs l.number (drop l.number l.nodes) ≡ all_outputs 0 l.nodes
