use Rattle.std.proofs.Common.{◌≡◌, ◌∙◌, sym, ap, subst, true, length, List}
use Rattle.std.proofs.lemmas.Bool.{and_parts}
use Rattle.scene_model.specs.declared.bus.Bus.{Bus}
use Rattle.scene_model.specs.declared.node_state.NodeState.{NodeState}
use Rattle.scene_model.specs.IsPlan.{IsPlan, names_nodes, may_seek}
use Rattle.scene_model.specs.PlanData.{PlanData}
use Rattle.scene_model.specs.Plans.{reply, made, is_done}
use Rattle.scene_model.proofs.PlanStays.{IsPlan-made, written_back}
use Rattle.scene_model.proofs.plan.apply.Goals as goal

of_lists : List NodeState → List Bus → PlanData
of_lists nodes buses = record { nodes = nodes; buses = buses }

same_lists : (nodes nodes' : List NodeState) (buses buses' : List Bus) → nodes ≡ nodes' → buses ≡ buses' → of_lists nodes buses ≡ of_lists nodes' buses'
same_lists nodes nodes' buses buses' n b = ap (λ ns. of_lists ns buses) n ∙ ap (of_lists nodes') b

pub invariant_of-plan : goal.invariant_of-plan
unfolding of_lists
invariant_of-plan c =
    let e = c.args.edit.now in
    let nodes = c.plan.inside.nodes.items in
    let buses = c.plan.inside.buses.items in
    let p = of_lists nodes buses in
    let both = and_parts (names_nodes (length c.args.plan.now.nodes) e) (may_seek c.args.plan.now.nodes e) c.requires in
    let named : names_nodes (length nodes) e ≡ true = subst (λ (q : PlanData). names_nodes (length q.nodes) e ≡ true) (sym c.plan.view_is) both.0 in
    let may : may_seek nodes e ≡ true = subst (λ (q : PlanData). may_seek q.nodes e ≡ true) (sym c.plan.view_is) both.1 in
    let replied = c.reply_to-reply.ensures ∙ ap (λ q. reply q e) (same_lists c.as_slice.result.now nodes c.as_slice-2.result.now buses c.as_slice.ensures.value c.as_slice-2.ensures.value) in
    let done : is_done (reply p e) ≡ true = ap is_done (sym replied) ∙ sym c.is_done.ensures ∙ c.if-is_done.true in
    let changed = c.make.ensures ∙ ap (λ q. made q e) (same_lists c.as_mut_slice.result.now nodes c.as_mut_slice-then-is_done.result.now buses c.as_mut_slice.ensures.value c.as_mut_slice-then-is_done.ensures.value) in
    let nodes_back = written_back nodes c.make.new.nodes c.plan.inside.nodes.len c.plan.inside.nodes.ok.0 (c.make.auto.nodes ∙ ap length c.as_mut_slice.ensures.value) in
    let buses_back = written_back buses c.make.new.buses c.plan.inside.buses.len c.plan.inside.buses.ok.0 (c.make.auto.buses ∙ ap length c.as_mut_slice-then-is_done.ensures.value) in
    subst (λ (q : PlanData). IsPlan q) (sym (same_lists _ c.make.new.nodes _ c.make.new.buses nodes_back buses_back ∙ changed)) (IsPlan-made p e c.plan.invariant named may done)
