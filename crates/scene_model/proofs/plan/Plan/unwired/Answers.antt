use Rattle.scene_model.proofs.PlanStays.{IsPlan-unwired}
use Rattle.scene_model.proofs.plan.Plan.unwired.Goals as goal

pub invariant_of-result : goal.invariant_of-result
invariant_of-result c = rw (c.in_ok-nodes.ensures, c.in_ok-buses.ensures) (IsPlan-unwired c.args.nodes.now c.requires.nodes c.requires.outputs)

pub returns : goal.returns
returns c = rw (c.in_ok-nodes.ensures, c.in_ok-buses.ensures)
