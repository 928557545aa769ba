use Rattle.std.proofs.Common.{arith, sym, ◌∙◌, ap, subst, ◌≡◌, ◌+◌, ℕ, List, length, drop}
use Rattle.std.specs.Prelude.{slice_index, fold}
use Rattle.std.specs.List.Sorted.{IsPermutation}
use Rattle.scene_model.specs.declared.bus.Bus.{Bus}
use Rattle.scene_model.specs.declared.order.NumberedEdit.{NumberedEdit}
use Rattle.scene_model.specs.Order.{in_order}
use Rattle.scene_model.specs.PlanData.{PlanData}
use Rattle.scene_model.specs.Plans.{after}
use Rattle.scene_model.specs.Reach.{HasNoCycle}
use Rattle.mix_model.specs.Due.{due, IsNext, CanMakeAll}
use Rattle.mix_model.specs.Mix.{node_frames, cursor_after_edit}
use Rattle.mix_model.specs.Moments.{IsAfterEdits}
use Rattle.mix_model.specs.Playing.{moment_of}
use Rattle.mix_model.proofs.Frames.{edits_in_order, nothing_due}
use Rattle.mix_model.proofs.Moments.{edits_made}
use Rattle.mix_model.proofs.ScenePlans.{nodes_before, within_most}
use Rattle.mix_model.proofs.player.Player.edit.Goals as goal

pub make_due-place-requires-clause-order : goal.make_due-place-requires-clause-order
make_due-place-requires-clause-order c =
    edits_in_order c.args.scene.now c.as_slice-edits.result.now (c.as_slice-edits.ensures ∙ c.requires.before.player.edits_are)

pub make_due-place-requires-clause-next : goal.make_due-place-requires-clause-next
make_due-place-requires-clause-next c =
    let order = c.as_slice-edits.ensures ∙ c.requires.before.player.edits_are in
    subst (λ (es : List NumberedEdit). IsNext es c.args.self.now.time c.args.self.now.place) (sym order) c.requires.before.moment.next

pub make_due-place-requires-clause-can : goal.make_due-place-requires-clause-can
make_due-place-requires-clause-can c =
    let order = c.as_slice-edits.ensures ∙ c.requires.before.player.edits_are in
    subst (λ (es : List NumberedEdit). CanMakeAll c.args.self.now.plan (drop c.args.self.now.place es)) (sym order) c.requires.before.moment.can

pub make_due-place-requires-clause-nodes : goal.make_due-place-requires-clause-nodes
make_due-place-requires-clause-nodes c =
    let s = c.args.scene.now in
    let count = ap (λ (p : PlanData). length p.nodes) c.requires.before.moment.plan_is ∙ nodes_before s c.args.self.now.time in
    let most = c.requires.before.player.scene_is.nodes_most in
    omega (arith, ap length c.as_mut_slice-cursors.ensures.value)

pub topological_order-requires-clause-no_cycle : goal.topological_order-requires-clause-no_cycle
topological_order-requires-clause-no_cycle c = subst (λ (bs : List Bus). HasNoCycle bs) (sym c.buses.ensures.value) c.buses.ensures.plan.no_cycle

pub topological_order-requires-clause-buses : goal.topological_order-requires-clause-buses
topological_order-requires-clause-buses c = rw c.buses.ensures.value (within_most c.make_due-place.new.plan c.buses.ensures.plan)

pub topological_order-requires-clause-most : goal.topological_order-requires-clause-most
topological_order-requires-clause-most c = rw c.buses.ensures.value c.buses.ensures.plan.buses_most

pub returns-in_ok-self-clause-at : goal.returns-in_ok-self-clause-at
returns-in_ok-self-clause-at c =
    let s = c.args.scene.now in
    let t = c.args.self.now.time in
    let before = c.requires.before in
    let order = c.as_slice-edits.ensures ∙ before.player.edits_are in
    let next : IsNext (in_order s.edits) (t + 1) c.make_due-place.result = subst (λ (es : List NumberedEdit). IsNext es (t + 1) c.make_due-place.result) order c.make_due-place.ensures.next in
    let can : CanMakeAll c.make_due-place.new.plan (drop c.make_due-place.result (in_order s.edits)) = subst (λ (es : List NumberedEdit). CanMakeAll c.make_due-place.new.plan (drop c.make_due-place.result es)) order c.make_due-place.ensures.can in
    let frames_are : (n : ℕ) → slice_index c.as_slice-frames.result.now n ≡ node_frames c.args.self.now.clips.items s n = λ n. ap (λ (xs : List ℕ). slice_index xs n) c.as_slice-frames.ensures ∙ before.player.frames_are n in
    let plan = c.make_due-place.ensures.plan ∙ ap (λ (es : List NumberedEdit). fold after c.args.self.now.plan (due es t)) order in
    let cursors : (n : ℕ) → slice_index c.make_due-place.new.cursors n ≡ fold (cursor_after_edit n (slice_index c.as_slice-frames.result.now n)) (slice_index c.args.self.now.cursors n) (due (in_order s.edits) t) = λ n.
    c.make_due-place.ensures.cursors n
    ∙ ap (λ (xs : List ℕ). fold (cursor_after_edit n (slice_index c.as_slice-frames.result.now n)) (slice_index xs n) (due c.as_slice-edits.result.now t)) c.as_mut_slice-cursors.ensures.value
    ∙ ap (λ (es : List NumberedEdit). fold (cursor_after_edit n (slice_index c.as_slice-frames.result.now n)) (slice_index c.args.self.now.cursors n) (due es t)) order in
    let made = edits_made c.args.self.now.clips.items s (moment_of c.args.self.now) c.as_slice-frames.result.now c.make_due-place.new.plan c.make_due-place.result c.make_due-place.new.cursors before.moment frames_are next plan can cursors in
    record {
      player = record { scene_is = before.player.scene_is; edits_are = before.player.edits_are; channels_are = before.player.channels_are; frames_are = before.player.frames_are };
      time_most = c.requires.left;
      moment = made;
      permutation = subst (λ (bs : List Bus). IsPermutation bs c.in_ok-self.field-0.items) c.buses.ensures.value c.in_ok-self.ensures.permutation;
      ordered = c.in_ok-self.ensures.ordered;
    }

pub returns-else-place-self-clause-at : goal.returns-else-place-self-clause-at
returns-else-place-self-clause-at c =
    let s = c.args.scene.now in
    let t = c.args.self.now.time in
    let before = c.requires.before in
    let same : c.make_due-place.result ≡ c.args.self.now.place = omega arith in
    let order = c.as_slice-edits.ensures ∙ before.player.edits_are in
    let next : IsNext (in_order s.edits) (t + 1) c.make_due-place.result = subst (λ (es : List NumberedEdit). IsNext es (t + 1) c.make_due-place.result) order c.make_due-place.ensures.next in
    let can : CanMakeAll c.make_due-place.new.plan (drop c.make_due-place.result (in_order s.edits)) = subst (λ (es : List NumberedEdit). CanMakeAll c.make_due-place.new.plan (drop c.make_due-place.result es)) order c.make_due-place.ensures.can in
    let frames_are : (n : ℕ) → slice_index c.as_slice-frames.result.now n ≡ node_frames c.args.self.now.clips.items s n = λ n. ap (λ (xs : List ℕ). slice_index xs n) c.as_slice-frames.ensures ∙ before.player.frames_are n in
    let plan = c.make_due-place.ensures.plan ∙ ap (λ (es : List NumberedEdit). fold after c.args.self.now.plan (due es t)) order in
    let cursors : (n : ℕ) → slice_index c.make_due-place.new.cursors n ≡ fold (cursor_after_edit n (slice_index c.as_slice-frames.result.now n)) (slice_index c.args.self.now.cursors n) (due (in_order s.edits) t) = λ n.
    c.make_due-place.ensures.cursors n
    ∙ ap (λ (xs : List ℕ). fold (cursor_after_edit n (slice_index c.as_slice-frames.result.now n)) (slice_index xs n) (due c.as_slice-edits.result.now t)) c.as_mut_slice-cursors.ensures.value
    ∙ ap (λ (es : List NumberedEdit). fold (cursor_after_edit n (slice_index c.as_slice-frames.result.now n)) (slice_index c.args.self.now.cursors n) (due es t)) order in
    let made = edits_made c.args.self.now.clips.items s (moment_of c.args.self.now) c.as_slice-frames.result.now c.make_due-place.new.plan c.make_due-place.result c.make_due-place.new.cursors before.moment frames_are next plan can cursors in
    let still : IsNext (in_order s.edits) (t + 1) c.args.self.now.place = subst (λ (k : ℕ). IsNext (in_order s.edits) (t + 1) k) same next in
    let none = nothing_due (in_order s.edits) t c.args.self.now.place before.moment.next still in
    let unchanged : c.make_due-place.new.plan ≡ c.args.self.now.plan = plan ∙ ap (fold after c.args.self.now.plan) none in
    record {
      player = record { scene_is = before.player.scene_is; edits_are = before.player.edits_are; channels_are = before.player.channels_are; frames_are = before.player.frames_are };
      time_most = c.requires.left;
      moment = subst (λ (k : ℕ). IsAfterEdits c.args.self.now.clips.items s (record { plan = c.make_due-place.new.plan; time = t; place = k; cursors = c.make_due-place.new.cursors })) same made;
      permutation = subst (λ (p : PlanData). IsPermutation p.buses c.args.self.now.ordered_buses.items) (sym unchanged) before.permutation;
      ordered = before.ordered;
    }
