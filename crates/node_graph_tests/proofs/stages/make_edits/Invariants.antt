use Rattle.std.proofs.Common.{◌≡◌}
use Rattle.node_graph_tests.proofs.stages.make_edits.Given as goal

abbrev pub invariant-loop-edit : goal.invariant-loop-edit
invariant-loop-edit g l = l.stage ≡ l.plan
