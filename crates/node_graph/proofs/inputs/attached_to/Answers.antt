use Rattle.std.proofs.Common.{◌+◌, Option, sym, ◌∙◌, subst}
use Rattle.scene_model.proofs.Steps.{no_bus}
use Rattle.node_graph.specs.ListData.{ListData}
use Rattle.node_graph.proofs.Gathered.{IsGatheredIn, gathered_more, gathered_same}
use Rattle.node_graph.proofs.inputs.attached_to.Goals as goal
use Rattle.node_graph.proofs.inputs.attached_to.Goals.{then-leads_to, else-leads_to}

pub loop-number-preserved : goal.loop-number-preserved
loop-number-preserved c =
    let buses = c.args.buses.now in
    let node = c.args.node in
    let i = c.loop-number.number in
    elim c.if-leads_to.branch [
      | then-leads_to w ↦
          subst (λ (input : Option ListData). IsGatheredIn buses node (i + 1) input) (sym (w.input-is ∙ w.attach.ensures))
          (gathered_more buses node i no_bus c.loop-number.input c.requires c.loop-number-test.true (sym c.leads_to.ensures ∙ w.if-leads_to.true) c.loop-number.invariant)
      | else-leads_to w ↦
          subst (λ (input : Option ListData). IsGatheredIn buses node (i + 1) input) (sym w.input-is)
          (gathered_same buses node i no_bus c.loop-number.input c.loop-number-test.true (sym c.leads_to.ensures ∙ w.if-leads_to.false) c.loop-number.invariant)
    ]
