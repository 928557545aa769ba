use Rattle.node_graph.proofs.Gathered.{AreFirstInputs}
use Rattle.live_graph.specs.InputEditors.{lists_of}
use Rattle.live_graph.specs.Passes.{ArePasses}
use Rattle.live_graph.proofs.opening.open_sides.Given as goal

abbrev pub invariant-loop-node : goal.invariant-loop-node
invariant-loop-node l = record {
  inputs_are : AreFirstInputs (record { nodes = l.nodes; buses = l.buses }) l.node (lists_of l.inputs.items);
  passes_are : ArePasses l.inputs.items l.passes.items;
}
