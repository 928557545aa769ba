use Rattle.std.proofs.Common.{◌≡◌}
use Rattle.node_graph_tests.proofs.stages.compare.Given as goal

abbrev pub invariant-loop-node : goal.invariant-loop-node
invariant-loop-node g l = l.stage ≡ l.plan
