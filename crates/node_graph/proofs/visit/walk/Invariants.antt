use Rattle.std.proofs.Common.{◌≡◌, vec_capacity}
use Rattle.bus_list.specs.PassStates.{unwalked}
use Rattle.bus_list.specs.PassViews.{buses_of_pass}
use Rattle.node_graph.proofs.Walked.{IsWalking}
use Rattle.node_graph.proofs.visit.walk.Given as goal

abbrev pub invariant-loop-bus : goal.invariant-loop-bus
invariant-loop-bus l = IsWalking l.fn.pass l.pass l.numbers.items × (vec_capacity l.numbers ≡ vec_capacity l.fn.numbers)

abbrev pub decreases-loop-bus : goal.decreases-loop-bus
decreases-loop-bus l = unwalked (buses_of_pass l.fn.pass) l.numbers.items
