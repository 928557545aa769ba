-- The edits of a frame are made, and nodes and buses are in order again.
use Rattle.std.proofs.Common.{arith, sym, ◌∙◌, ap, subst, ◌≡◌, ◌+◌, ◌≤◌, ℕ, List, length, drop, get_or, refl}
use Rattle.std.specs.Prelude.{slice_index, fold, Contains}
use Rattle.std.specs.Vec.{with_items}
use Rattle.std.specs.List.Sorted.{IsPermutation}
use Rattle.std.proofs.lemmas.List.{with_items_is}
use Rattle.std.proofs.lemmas.List.Sorted.{length_permutation}
use Rattle.scene_model.specs.declared.bus.Bus.{Bus}
use Rattle.scene_model.specs.declared.order.NumberedEdit.{NumberedEdit}
use Rattle.scene_model.specs.Order.{in_order}
use Rattle.scene_model.specs.IsPlan.{IsPlan}
use Rattle.scene_model.specs.PlanData.{PlanData}
use Rattle.scene_model.specs.Plans.{after}
use Rattle.mix_model.specs.Due.{due, IsNext, CanMakeAll}
use Rattle.mix_model.specs.Mix.{node_frames, cursor_after_edit}
use Rattle.mix_model.specs.Moments.{IsAfterEdits}
use Rattle.mix_model.proofs.Frames.{edits_in_order}
use Rattle.mix_model.proofs.Moments.{edits_made}
use Rattle.mix_model.specs.OrderedBuses.{IsOrdered}
use Rattle.mix_model.proofs.ScenePlans.{nodes_run}
use Rattle.engine.specs.declared.playback.Playback.{Playback}
use Rattle.engine.specs.Nodes.{IsOrderOf}
use Rattle.engine.specs.Playing.{IsBefore, moment_of}
use Rattle.engine.proofs.CursorsWithin.{cursor_most}
use Rattle.engine.proofs.EditsMade.{buses_run, order_kept, playable_again}
use Rattle.engine.proofs.playback.Playback.edit.Goals as goal

-- the edits of a frame were made in a playback: this is its plan, the next edit and the cursors
record AreMade (p : Playback) (stage : PlanData) (next : ℕ) (cursors : List ℕ) : Type 0 where
  moment : IsAfterEdits p.clips.items p.scene.value (record { plan = stage; time = p.time; place = next; cursors = cursors })
  most : (n : ℕ) → slice_index cursors n ≤ slice_index p.frames n
  plan : stage ≡ fold after p.stage (due (in_order p.scene.value.edits) p.time)

are_made : (p : Playback) (edits : List NumberedEdit) (frames first cursors : List ℕ) (stage : PlanData) (next : ℕ) → IsBefore p → edits ≡ p.edits → frames ≡ p.frames → first ≡ p.cursors
    → IsNext edits (p.time + 1) next → stage ≡ fold after p.stage (due edits p.time)
    → ((n : ℕ) → slice_index cursors n ≡ fold (cursor_after_edit n (slice_index frames n)) (slice_index first n) (due edits p.time))
    → CanMakeAll stage (drop next edits) → AreMade p stage next cursors
are_made p edits frames first cursors stage next before edits_are frames_are first_is is_next plan moved can =
    let s = p.scene.value in
    let t = p.time in
    let order = edits_are ∙ before.of_scene.edits_are in
    let of_scene : (n : ℕ) → slice_index frames n ≡ node_frames p.clips.items s n = λ n. ap (λ (xs : List ℕ). slice_index xs n) frames_are ∙ before.of_scene.frames_are n in
    let planned = plan ∙ ap (λ (es : List NumberedEdit). fold after p.stage (due es t)) order in
    let made = edits_made p.clips.items s (moment_of p) frames stage next cursors before.moment of_scene
    (subst (λ (es : List NumberedEdit). IsNext es (t + 1) next) order is_next) planned
    (subst (λ (es : List NumberedEdit). CanMakeAll stage (drop next es)) order can)
    (λ n. moved n
    ∙ ap (λ (xs : List ℕ). fold (cursor_after_edit n (slice_index frames n)) (slice_index xs n) (due edits t)) first_is
    ∙ ap (λ (es : List NumberedEdit). fold (cursor_after_edit n (slice_index frames n)) (slice_index p.cursors n) (due es t)) order) in
    record {
      moment = made;
      most = λ n. subst (λ k. slice_index cursors n ≤ k) (sym (before.of_scene.frames_are n)) (subst (λ k. k ≤ node_frames p.clips.items s n) (sym (made.cursors_are n)) (cursor_most p.clips.items s n t));
      plan = planned;
    }

pub make_due-made-requires-clause-order : goal.make_due-made-requires-clause-order
make_due-made-requires-clause-order c =
    edits_in_order c.args.self.now.scene.value c.as_slice-edits.result.now (c.as_slice-edits.ensures ∙ c.requires.before.of_scene.edits_are)

pub put_in_order-requires-clause-numbers : goal.put_in_order-requires-clause-numbers
put_in_order-requires-clause-numbers c =
    let p = c.args.self.now in
    let es = due c.as_slice-edits.result.now p.time in
    let count : length c.lawful_plan-plan.result.now.nodes ≡ length p.stage.nodes = ap (λ (q : PlanData). length q.nodes) (c.lawful_plan-plan.ensures.value ∙ c.make_due-made.ensures.plan) ∙ nodes_run p.stage es in
    let order = c.as_mut_slice-order.ensures.value in
    λ k d inside. omega (arith, ap (λ (xs : List ℕ). get_or xs k d) order, c.requires.before.playable.order_is.numbers k d (omega (arith, inside, ap (λ (xs : List ℕ). length xs) order)), count)

pub put_in_order-requires-clause-whole : goal.put_in_order-requires-clause-whole
put_in_order-requires-clause-whole c = λ n below.
    let p = c.args.self.now in
    let es = due c.as_slice-edits.result.now p.time in
    let count : length c.lawful_plan-plan.result.now.nodes ≡ length p.stage.nodes = ap (λ (q : PlanData). length q.nodes) (c.lawful_plan-plan.ensures.value ∙ c.make_due-made.ensures.plan) ∙ nodes_run p.stage es in
    subst (λ (xs : List ℕ). Contains xs n) (sym c.as_mut_slice-order.ensures.value) (c.requires.before.playable.order_is.whole n (omega (arith, below, count)))

pub put_in_order-requires-clause-room : goal.put_in_order-requires-clause-room
put_in_order-requires-clause-room c =
    let p = c.args.self.now in
    let es = due c.as_slice-edits.result.now p.time in
    let count : length c.lawful_plan-plan.result.now.buses ≡ length p.stage.buses = ap (λ (q : PlanData). length q.buses) (c.lawful_plan-plan.ensures.value ∙ c.make_due-made.ensures.plan) ∙ buses_run p.stage es in
    omega (arith, ap (λ (xs : List Bus). length xs) c.as_mut_slice-buses.ensures.value, count, length_permutation p.stage.buses p.ordered_buses.items c.requires.before.playable.permutation)

pub returns-then-made-clause-at : goal.returns-then-made-clause-at
returns-then-made-clause-at c =
    let p = c.args.self.now in
    let before = c.requires.before in
    let made = are_made p c.as_slice-edits.result.now c.as_slice-frames.result.now c.as_mut_slice-cursors.result.now c.make_due-made.new.cursors c.make_due-made.new.stage c.make_due-made.result.next
    before c.as_slice-edits.ensures c.as_slice-frames.ensures c.as_mut_slice-cursors.ensures.value c.make_due-made.ensures.next c.make_due-made.ensures.plan c.make_due-made.ensures.cursors c.make_due-made.ensures.can in
    let plan_is : c.lawful_plan-plan.result.now ≡ c.make_due-made.new.stage = c.lawful_plan-plan.ensures.value in
    let orders : (with_items p.order c.put_in_order.new.order).items ≡ c.put_in_order.new.order = with_items_is p.order c.put_in_order.new.order (omega (arith, c.put_in_order.auto.order, c.as_mut_slice-order.ensures.len)) in
    let sorted : (with_items p.ordered_buses c.put_in_order.new.ordered_buses).items ≡ c.put_in_order.new.ordered_buses = with_items_is p.ordered_buses c.put_in_order.new.ordered_buses (omega (arith, c.put_in_order.auto.ordered_buses, c.as_mut_slice-buses.ensures.len)) in
    record {
      of_scene = record { scene_is = before.of_scene.scene_is; length_is = before.of_scene.length_is; edits_are = before.of_scene.edits_are; channels_are = before.of_scene.channels_are; frames_are = before.of_scene.frames_are };
      time_most = c.requires.left;
      moment = made.moment;
      playable = playable_again p _ (due (in_order p.scene.value.edits) p.time) before.playable made.plan refl refl refl refl refl
          (subst (λ (q : PlanData). IsPlan q) plan_is c.put_in_order.ensures.plan) (λ n below. made.most n)
          (subst (λ (q : PlanData). IsOrderOf q (with_items p.order c.put_in_order.new.order).items) plan_is (subst (λ (xs : List ℕ). IsOrderOf c.lawful_plan-plan.result.now xs) (sym orders) c.put_in_order.ensures.order))
          (subst (λ (q : PlanData). IsPermutation q.buses (with_items p.ordered_buses c.put_in_order.new.ordered_buses).items) plan_is (subst (λ (bs : List Bus). IsPermutation c.lawful_plan-plan.result.now.buses bs) (sym sorted) c.put_in_order.ensures.permutation))
          (subst (λ (bs : List Bus). IsOrdered bs) (sym sorted) c.put_in_order.ensures.ordered);
    }

pub returns-else-made-clause-at : goal.returns-else-made-clause-at
returns-else-made-clause-at c =
    let p = c.args.self.now in
    let before = c.requires.before in
    let stage = c.make_due-made.new.stage in
    let made = are_made p c.as_slice-edits.result.now c.as_slice-frames.result.now c.as_mut_slice-cursors.result.now c.make_due-made.new.cursors stage c.make_due-made.result.next
    before c.as_slice-edits.ensures c.as_slice-frames.ensures c.as_mut_slice-cursors.ensures.value c.make_due-made.ensures.next c.make_due-made.ensures.plan c.make_due-made.ensures.cursors c.make_due-made.ensures.can in
    let buses : stage.buses ≡ p.stage.buses = c.make_due-made.ensures.buses c.if-made.false in
    let nodes : length stage.nodes ≡ length p.stage.nodes = ap (λ (q : PlanData). length q.nodes) made.plan ∙ nodes_run p.stage (due (in_order p.scene.value.edits) p.time) in
    record {
      of_scene = record { scene_is = before.of_scene.scene_is; length_is = before.of_scene.length_is; edits_are = before.of_scene.edits_are; channels_are = before.of_scene.channels_are; frames_are = before.of_scene.frames_are };
      time_most = c.requires.left;
      moment = made.moment;
      playable = playable_again p _ (due (in_order p.scene.value.edits) p.time) before.playable made.plan refl refl refl refl refl
          c.lawful_plan-plan.ensures.lawful (λ n below. made.most n)
          (order_kept p.stage stage p.order.items nodes buses before.playable.order_is)
          (subst (λ (bs : List Bus). IsPermutation bs p.ordered_buses.items) (sym buses) before.playable.permutation)
          before.playable.ordered;
    }
