use Rattle.std.proofs.Common.{arith, sym, ◌∙◌, ap, subst, ◌≡◌, ◌+◌, ◌≤◌, List, length, drop}
use Rattle.scene_model.specs.declared.order.NumberedEdit.{NumberedEdit}
use Rattle.scene_model.specs.IsScene.{IsScene}
use Rattle.scene_model.specs.Order.{in_order}
use Rattle.scene_model.specs.Plans.{after}
use Rattle.scene_model.specs.SceneData.{SceneData}
use Rattle.std.specs.Prelude.{fold}
use Rattle.mix_model.specs.Due.{due, IsNext, CanMakeAll}
use Rattle.mix_model.proofs.Frames.{edits_in_order}
use Rattle.scene_view.proofs.Moving.{stands_first, stands_next, stands_last, few_nodes}
use Rattle.scene_view.proofs.moment.plan_at.Goals as goal

pub loop-time-init : goal.loop-time-init
loop-time-init c =
    let s = c.args.scene.now in
    let is : IsScene s = subst (λ (q : SceneData). IsScene q) c.scene.view_is c.scene.invariant in
    let edits_are = c.into_vec-edits.ensures ∙ c.in_ok-edits_in_order.ensures ∙ ap in_order (c.as_slice.ensures ∙ ap (λ (q : SceneData). q.edits) c.scene.view_is) in
    stands_first s c.into_vec-edits.result.items c.in_ok-plan.plan is edits_are c.in_ok-plan.ensures

pub make_due-place-requires-clause-order : goal.make_due-place-requires-clause-order
make_due-place-requires-clause-order c =
    edits_in_order c.args.scene.now c.as_slice-in-loop-time.result.now (c.as_slice-in-loop-time.ensures.value ∙ c.loop-time.invariant.edits_are)

pub make_due-place-requires-clause-nodes : goal.make_due-place-requires-clause-nodes
make_due-place-requires-clause-nodes c =
    let s = c.args.scene.now in
    let is : IsScene s = subst (λ (q : SceneData). IsScene q) c.scene.view_is c.scene.invariant in
    let few = few_nodes s c.into_vec-edits.result.items c.loop-time.time c.loop-time.place c.loop-time.plan is c.loop-time.invariant in
    omega arith

pub loop-time-preserved : goal.loop-time-preserved
loop-time-preserved c =
    let edits = c.into_vec-edits.result.items in
    let same = c.as_slice-in-loop-time.ensures.value in
    stands_next c.args.scene.now edits c.loop-time.time c.loop-time.place c.make_due-place.result c.loop-time.plan c.make_due-place.new.plan c.loop-time.invariant
    (c.make_due-place.ensures.plan ∙ ap (λ (es : List NumberedEdit). fold after c.loop-time.plan (due es c.loop-time.time)) same)
    (subst (λ (es : List NumberedEdit). IsNext es (c.loop-time.time + 1) c.make_due-place.result) same c.make_due-place.ensures.next)
    (subst (λ (es : List NumberedEdit). CanMakeAll c.make_due-place.new.plan (drop c.make_due-place.result es)) same c.make_due-place.ensures.can)

pub returns : goal.returns
returns c =
    let last : c.loop-time.time ≡ c.args.frame + 1 = omega arith in
    stands_last c.args.scene.now c.into_vec-edits.result.items c.loop-time.time c.loop-time.place c.args.frame c.loop-time.plan c.loop-time.invariant last
