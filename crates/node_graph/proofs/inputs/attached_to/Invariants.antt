use Rattle.node_graph.proofs.Gathered.{IsGatheredIn}
use Rattle.node_graph.proofs.inputs.attached_to.Given as goal

abbrev pub invariant-loop-number : goal.invariant-loop-number
invariant-loop-number l = IsGatheredIn l.buses l.node l.number l.input
