use Rattle.std.proofs.Common.{◌≡◌, sym, ◌∙◌, ap, subst, List, length}
use Rattle.std.specs.List.Sorted.{IsPermutation}
use Rattle.scene_model.specs.declared.bus.Bus.{Bus}
use Rattle.scene_model.specs.declared.node_state.NodeState.{NodeState}
use Rattle.scene_model.specs.Reach.{HasNoCycle}
use Rattle.mix_model.specs.OrderedBuses.{plan_of, AreOrderedBuses}
use Rattle.mix_model.specs.Pulled.{pulled}
use Rattle.mix_model.proofs.Pulls.{pulled-reordered}
use Rattle.mix_model.proofs.ScenePlans.{ordered_buses_are, within_most}
use Rattle.scene_view.proofs.moment.pulled_at.Goals as goal

pub topological_order-requires-clause-no_cycle : goal.topological_order-requires-clause-no_cycle
topological_order-requires-clause-no_cycle c = subst (λ (bs : List Bus). HasNoCycle bs) (sym c.buses.ensures.value) c.buses.ensures.plan.no_cycle

pub topological_order-requires-clause-most : goal.topological_order-requires-clause-most
topological_order-requires-clause-most c = rw c.buses.ensures.value c.buses.ensures.plan.buses_most

pub topological_order-requires-clause-buses : goal.topological_order-requires-clause-buses
topological_order-requires-clause-buses c = rw c.buses.ensures.value (within_most c.args.plan.now c.buses.ensures.plan)

pub mark_pulled-requires-clause-ordered_buses : goal.mark_pulled-requires-clause-ordered_buses
mark_pulled-requires-clause-ordered_buses c =
    let moved = subst (λ (bs : List Bus). IsPermutation bs c.in_ok-buses.buses.items) c.buses.ensures.value c.in_ok-buses.ensures.permutation in
    rw (c.nodes.ensures.value, c.as_slice.ensures.value) (ordered_buses_are c.args.plan.now c.in_ok-buses.buses.items c.buses.ensures.plan moved c.in_ok-buses.ensures.ordered)

pub returns : goal.returns
returns c = λ n inside.
    let p = c.args.plan.now in
    let moved = subst (λ (bs : List Bus). IsPermutation bs c.in_ok-buses.buses.items) c.buses.ensures.value c.in_ok-buses.ensures.permutation in
    c.mark_pulled.ensures n (rw c.nodes.ensures.value inside)
    ∙ ap (λ (nodes : List NodeState). pulled (plan_of nodes c.as_slice.result.now) c.args.frame n) c.nodes.ensures.value
    ∙ ap (λ (bs : List Bus). pulled (plan_of p.nodes bs) c.args.frame n) c.as_slice.ensures.value
    ∙ pulled-reordered p c.in_ok-buses.buses.items c.args.frame n moved
