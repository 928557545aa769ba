use Rattle.std.proofs.Common.{◌≡◌, ◌*◌, List, length, sym, ◌∙◌, ap, subst}
use Rattle.scene_model.specs.declared.node_state.NodeState.{NodeState}
use Rattle.scene_model.specs.IsPlan.{IsPlan}
use Rattle.scene_model.specs.PlanData.{PlanData}
use Rattle.mix_model.specs.Pulled.{endpoint}
use Rattle.engine.specs.Nodes.{IsOrderOf}
use Rattle.engine.specs.Span.{AreInputs, FeedsKept}
use Rattle.engine.proofs.NodesKept.{endpoint_fed}
use Rattle.engine.proofs.SoundsHeard.{steady_places}
use Rattle.engine.proofs.playback.Playback.mix_endpoint.Goals as goal

pub returns-clause-inputs : goal.returns-clause-inputs
returns-clause-inputs c = λ s span kept.
    let p = c.args.self.now in
    let places = c.args.count * p.channels in
    let plan : IsPlan s.first.plan = subst (λ (q : PlanData). IsPlan q) (sym span.plan_is) c.requires.playable.plan_is in
    let order : IsOrderOf s.first.plan p.order.items = subst (λ (q : PlanData). IsOrderOf q p.order.items) (sym span.plan_is) c.requires.playable.order_is in
    let feeds = endpoint_fed s places p.order.items p.room.kept.items plan order kept in
    let feeds_here : FeedsKept s places (endpoint p.stage) p.room.kept.items = subst (λ (q : PlanData). FeedsKept s places (endpoint q) p.room.kept.items) span.plan_is feeds in
    let here : endpoint p.stage ≡ length c.nodes.result.now = sym (ap (λ (xs : List NodeState). length xs) (c.nodes.ensures.value ∙ ap (λ (q : PlanData). q.nodes) c.plan.ensures)) in
    subst (λ n. AreInputs s places n c.mix.new.self.samples.items) (sym here)
    (c.mix.ensures.inputs s span.plan_is span.time_is (steady_places s p c.args.count c.requires.playable span) (subst (λ n. FeedsKept s places n p.room.kept.items) here feeds_here))
