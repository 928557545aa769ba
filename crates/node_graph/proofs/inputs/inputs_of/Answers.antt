use Rattle.std.proofs.Common.{◌+◌, List, Option, sym, subst}
use Rattle.scene_model.specs.PlanData.{PlanData}
use Rattle.node_graph.specs.ListData.{ListData}
use Rattle.node_graph.proofs.Gathered.{AreFirstInputs, first_more}
use Rattle.node_graph.proofs.inputs.inputs_of.Goals as goal

pub loop-node-preserved : goal.loop-node-preserved
loop-node-preserved c =
    let p : PlanData = record { nodes = c.nodes-nodes.result.now; buses = c.buses-buses.result.now } in
    let node = c.loop-node.node in
    let input = c.in_ok-input_of in
    subst (λ (inputs : List (Option ListData)). AreFirstInputs p (node + 1) inputs) (sym {A = List (Option ListData)} c.in_ok-push.ensures.items)
    (first_more p node c.loop-node.inputs.items input.field-0 c.loop-node.invariant input.ensures.input input.ensures.edits)
