use Rattle.std.proofs.Common.{refl, true, false}
use Rattle.scene_model.specs.declared.node_state.NodeState.{NodeState}
use Rattle.scene_model.specs.Plans.{with_seek}
use Rattle.scene_model.proofs.Steps.{node_set}
use Rattle.scene_model.proofs.changes.make.Goals as goal

pub returns-in-Start : goal.returns-in-Start
returns-in-Start c = rw c.in-Start.is (node_set (λ (n : NodeState). record n { started = true }) c.args.nodes.now c.args.buses.now c.in-Start.node _ refl)

pub returns-in-Stop : goal.returns-in-Stop
returns-in-Stop c = rw c.in-Stop.is (node_set (λ (n : NodeState). record n { started = false }) c.args.nodes.now c.args.buses.now c.in-Stop.node _ refl)

pub returns-in-From : goal.returns-in-From
returns-in-From c = rw c.in-From.is (node_set (λ (n : NodeState). record n { from = c.in-From.value }) c.args.nodes.now c.args.buses.now c.in-From.node _ refl)

pub returns-in-Until : goal.returns-in-Until
returns-in-Until c = rw c.in-Until.is (node_set (λ (n : NodeState). record n { until = c.in-Until.value }) c.args.nodes.now c.args.buses.now c.in-Until.node _ refl)

pub returns-in-Seek : goal.returns-in-Seek
returns-in-Seek c = rw c.in-Seek.is (node_set (with_seek c.in-Seek.place) c.args.nodes.now c.args.buses.now c.in-Seek.node _ c.seek.ensures)

pub returns-in-Loop : goal.returns-in-Loop
returns-in-Loop c = rw c.in-Loop.is (node_set (λ (n : NodeState). record n { looped = c.in-Loop.on }) c.args.nodes.now c.args.buses.now c.in-Loop.node _ refl)
