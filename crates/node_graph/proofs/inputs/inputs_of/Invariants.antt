use Rattle.node_graph.proofs.Gathered.{AreFirstInputs}
use Rattle.node_graph.proofs.inputs.inputs_of.Given as goal

abbrev pub invariant-loop-node : goal.invariant-loop-node
invariant-loop-node l = AreFirstInputs (record { nodes = l.nodes; buses = l.buses }) l.node l.inputs.items
