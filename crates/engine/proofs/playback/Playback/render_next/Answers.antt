use Rattle.std.proofs.Common.{◌≡◌, ◌*◌, ◌≤◌, true, sym, ◌∙◌, ap, subst, rules}
use Rattle.scene_model.specs.PlanData.{PlanData}
use Rattle.scene_model.specs.Reach.{HasNoCycle}
use Rattle.mix_model.specs.OrderedBuses.{mark_at}
use Rattle.mix_model.specs.Pulled.{pulled}
use Rattle.resource_mgr.proofs.Tapes.{laters_refl}
use Rattle.engine.specs.Nodes.{IsOrderOf}
use Rattle.engine.specs.Span.{node_places}
use Rattle.engine.proofs.NodesKept.{feeds_kept, few_places, node_kept}
use Rattle.engine.proofs.playback.Playback.render_next.Goals as goal

pub returns-clause-next : goal.returns-clause-next
returns-clause-next c = λ s k span inside here kept.
    let p = c.args.self.now in
    let n = c.args.n in
    let places = c.args.count * p.channels in
    let marked : mark_at p.marks n ≡ true = search rules in
    let pulls : pulled p.stage p.time n ≡ true = sym (c.requires.marked n c.requires.node) ∙ marked in
    let pulls_here : pulled s.first.plan s.first.time n ≡ true = ap (λ (q : PlanData). pulled q s.first.time n) span.plan_is ∙ ap (λ t. pulled p.stage t n) span.time_is ∙ pulls in
    let none : HasNoCycle s.first.plan.buses = subst (λ (q : PlanData). HasNoCycle q.buses) (sym span.plan_is) c.requires.playable.plan_is.no_cycle in
    let order : IsOrderOf s.first.plan p.order.items = subst (λ (q : PlanData). IsOrderOf q p.order.items) (sym span.plan_is) c.requires.playable.order_is in
    let feeds = feeds_kept s places k n p.order.items p.room.kept.items none order inside here pulls_here kept in
    let are = c.in_ok-render_node.ensures.outputs s span feeds in
    let most : places ≤ node_places = few_places c.args.count p.channels c.requires.few c.requires.playable.channels_most in
    node_kept s places k n p.order.items p.room.kept.items c.render_node.new.self.room.kept.items most here c.in_ok-render_node.ensures.others are kept

pub render_node-requires-clause-pulled : goal.render_node-requires-clause-pulled
render_node-requires-clause-pulled c =
    let p = c.args.self.now in
    let marked : mark_at p.marks c.args.n ≡ true = search rules in
    sym (c.requires.marked c.args.n c.requires.node) ∙ marked

pub returns-then-not-self-n-clause-tapes : goal.returns-then-not-self-n-clause-tapes
returns-then-not-self-n-clause-tapes c = laters_refl c.args.self.now.tapes.items
