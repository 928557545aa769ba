use Rattle.node_graph.proofs.Scanned.{IsScanned}
use Rattle.node_graph.proofs.attached.write_attached.Given as goal

abbrev pub invariant-loop-number : goal.invariant-loop-number
invariant-loop-number l = IsScanned l.buses l.node l.number l.count l.initial.into l.into
