use Rattle.std.proofs.Common.{◌≡◌, ℕ, ◌<◌, false, get_or}
use Rattle.scene_model.specs.Wiring.{is_output}
use Rattle.scene_model.proofs.Steps.{no_bus}
use Rattle.node_graph.proofs.list_changes.number_of.Given as goal

abbrev pub invariant-loop-number : goal.invariant-loop-number
invariant-loop-number l = (k : ℕ) → k < l.number → is_output l.node l.out (get_or l.buses k no_bus) ≡ false
