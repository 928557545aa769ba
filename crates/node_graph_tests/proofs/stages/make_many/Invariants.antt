use Rattle.std.proofs.Common.{◌≡◌, ◌≤◌}
use Rattle.node_graph_tests.proofs.stages.make_many.Given as goal

abbrev pub invariant-loop-turn : goal.invariant-loop-turn
invariant-loop-turn g l = record { same : l.stage ≡ l.plan; few : l.done ≤ l.turn }
