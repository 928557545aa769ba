use Rattle.std.proofs.Common.{◌≡◌, List, length, ◌∙◌, ap, arith}
use Rattle.scene_model.specs.declared.bus.Bus.{Bus}
use Rattle.scene_model.specs.declared.node_state.NodeState.{NodeState}
use Rattle.scene_model.specs.PlanData.{PlanData}
use Rattle.mix_model.specs.OrderedBuses.{AreOrderedBuses, plan_of}
use Rattle.mix_model.specs.Pulled.{pulled}
use Rattle.mix_model.proofs.Pulls.{pulled-reordered}
use Rattle.mix_model.proofs.ScenePlans.{ordered_buses_are}
use Rattle.engine.proofs.playback.Playback.mark.Goals as goal

pub mark_pulled-requires-clause-ordered_buses : goal.mark_pulled-requires-clause-ordered_buses
mark_pulled-requires-clause-ordered_buses c =
    let p = c.args.self.now.stage in
    let are : AreOrderedBuses (length p.nodes) c.args.self.now.ordered_buses.items = ordered_buses_are p c.args.self.now.ordered_buses.items c.requires.plan_is c.requires.permutation c.requires.ordered in
    rw (c.nodes-nodes.ensures.value ∙ ap (λ (q : PlanData). q.nodes) c.plan.ensures, c.as_slice-buses.ensures.value) are

pub returns-clause-marked : goal.returns-clause-marked
returns-clause-marked c = λ n below.
    let p = c.args.self.now.stage in
    let t = c.args.self.now.time in
    let nodes : c.nodes-nodes.result.now ≡ p.nodes = c.nodes-nodes.ensures.value ∙ ap (λ (q : PlanData). q.nodes) c.plan.ensures in
    c.mark_pulled.ensures n (omega (arith, below, ap (λ (xs : List NodeState). length xs) nodes))
    ∙ ap (λ (xs : List NodeState). pulled (plan_of xs c.as_slice-buses.result.now) t n) nodes
    ∙ ap (λ (xs : List Bus). pulled (plan_of p.nodes xs) t n) c.as_slice-buses.ensures.value
    ∙ pulled-reordered p c.args.self.now.ordered_buses.items t n c.requires.permutation
