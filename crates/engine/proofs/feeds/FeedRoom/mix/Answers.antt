use Rattle.std.proofs.Common.{◌≡◌, ◌≤◌, length, take, sym, ◌∙◌, ap, arith}
use Rattle.std.specs.Prelude.{IsPermutation}
use Rattle.std.proofs.lemmas.List.{length-take-le, with_items_is}
use Rattle.scene_model.specs.PlanData.{PlanData}
use Rattle.node_graph.specs.Attached.{attached}
use Rattle.node_graph.proofs.Counting.{length-attached}
use Rattle.engine.proofs.Feeding.{feeds_there, feeds_are, fed}
use Rattle.engine.proofs.feeds.FeedRoom.mix.Goals as goal

pub slice_bounds-numbers-end : goal.slice_bounds-numbers-end
slice_bounds-numbers-end c =
    let read : c.as_slice.result.now ≡ c.visit-count.new.into = c.as_slice.ensures.value ∙ with_items_is c.args.self.now.numbers c.visit-count.new.into (omega (arith, c.visit-count.auto.into, c.as_mut_slice.ensures.len)) in
    let inside : c.visit-count.result ≤ length c.as_slice.result.now = omega (arith, ap length read, c.visit-count.ensures.count, length-attached c.args.stage.now.buses c.args.n, c.requires.room.numbers_are, c.visit-count.auto.into) in
    sym (length-take-le c.visit-count.result c.as_slice.result.now inside)

pub mix_front-requires-clause-numbers : goal.mix_front-requires-clause-numbers
mix_front-requires-clause-numbers c = λ k d inside.
    let p = c.args.stage.now in
    let read : c.as_slice.result.now ≡ c.visit-count.new.into = c.as_slice.ensures.value ∙ with_items_is c.args.self.now.numbers c.visit-count.new.into (omega (arith, c.visit-count.auto.into, c.as_mut_slice.ensures.len)) in
    let same : c.plan-plan.result.now ≡ p = c.plan-plan.ensures ∙ c.visit-count.ensures.plan in
    let moves : IsPermutation (attached p.buses c.args.n) (take c.visit-count.result c.as_slice.result.now) = rw read c.visit-count.ensures.written in
    rw same ((feeds_there p.buses c.args.n (take c.visit-count.result c.as_slice.result.now) moves k d inside).inside)

pub mix_front-requires-clause-count : goal.mix_front-requires-clause-count
mix_front-requires-clause-count c =
    let p = c.args.stage.now in
    let read : c.as_slice.result.now ≡ c.visit-count.new.into = c.as_slice.ensures.value ∙ with_items_is c.args.self.now.numbers c.visit-count.new.into (omega (arith, c.visit-count.auto.into, c.as_mut_slice.ensures.len)) in
    let same : c.plan-plan.result.now ≡ p = c.plan-plan.ensures ∙ c.visit-count.ensures.plan in
    let inside : c.visit-count.result ≤ length c.as_slice.result.now = omega (arith, ap length read, c.visit-count.ensures.count, length-attached p.buses c.args.n, c.requires.room.numbers_are, c.visit-count.auto.into) in
    omega (arith, length-take-le c.visit-count.result c.as_slice.result.now inside, c.visit-count.ensures.count, length-attached p.buses c.args.n, ap (λ (q : PlanData). length q.buses) same)

pub returns-clause-inputs : goal.returns-clause-inputs
returns-clause-inputs c = λ s plan_is time_is steady feeds.
    let p = c.args.stage.now in
    let numbers = take c.visit-count.result c.as_slice.result.now in
    let read : c.as_slice.result.now ≡ c.visit-count.new.into = c.as_slice.ensures.value ∙ with_items_is c.args.self.now.numbers c.visit-count.new.into (omega (arith, c.visit-count.auto.into, c.as_mut_slice.ensures.len)) in
    let same : c.plan-plan.result.now ≡ p = c.plan-plan.ensures ∙ c.visit-count.ensures.plan in
    let moves : IsPermutation (attached p.buses c.args.n) numbers = rw read c.visit-count.ensures.written in
    c.mix_front.ensures.inputs s c.args.n (plan_is ∙ sym same) (rw same (feeds_are p.buses c.args.n numbers moves))
    (rw same (fed s p c.args.n c.args.time c.args.places numbers c.args.kept.now plan_is time_is steady moves feeds))
