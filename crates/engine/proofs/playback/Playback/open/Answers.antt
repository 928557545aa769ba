use Rattle.std.proofs.Common.{◌≡◌, ◌+◌, ◌<◌, ◌≤◌, ℕ, List, length, map, get_or, refl, sym, ◌∙◌, ap, subst, arith}
use Rattle.std.specs.Prelude.{All, slice_index}
use Rattle.std.specs.Vec.{with_items}
use Rattle.std.specs.List.Sorted.{IsPermutation}
use Rattle.std.proofs.lemmas.List.{get_or_default, with_items_is}
use Rattle.scene_clips.specs.SceneClipData.{SceneClipData}
use Rattle.scene_model.specs.declared.bus.Bus.{Bus}
use Rattle.scene_model.specs.declared.node_state.NodeState.{NodeState}
use Rattle.scene_model.specs.IsPlan.{IsPlan}
use Rattle.scene_model.specs.IsScene.{IsScene}
use Rattle.scene_model.specs.Limits as limits
use Rattle.scene_model.specs.Opening.{opening}
use Rattle.scene_model.specs.Order.{in_order}
use Rattle.scene_model.specs.PlanData.{PlanData}
use Rattle.scene_model.specs.SceneData.{SceneData}
use Rattle.scene_clips.specs.ClipFrames.{clip_length}
use Rattle.resource_mgr.specs.Tapes.{files_of}
use Rattle.resource_mgr.specs.declared.tape.Tape.{Tape}
use Rattle.mix_model.specs.Mix.{AreFramesOf, clips_of, kind_frames, node_frames}
use Rattle.mix_model.specs.Pulled.{node}
use Rattle.mix_model.specs.OrderedBuses.{IsOrdered}
use Rattle.mix_model.proofs.Deepening.{zeros_at}
use Rattle.mix_model.proofs.Moments.{moment_start}
use Rattle.mix_model.proofs.Starting.{channels_start}
use Rattle.engine.specs.Nodes.{IsOrderOf}
use Rattle.engine.proofs.EditsMade.{start_frames}
use Rattle.engine.proofs.TapeClips.{clips_are, files_are}
use Rattle.engine.proofs.playback.Playback.open.Goals as goal

pub put_in_order-requires-clause-numbers : goal.put_in_order-requires-clause-numbers
put_in_order-requires-clause-numbers c = λ k d inside.
    let order = c.as_mut_slice-places.ensures.value in
    let items = c.in_ok-order.order.items in
    let within : k < length items = omega (arith, inside, ap (λ (xs : List ℕ). length xs) order) in
    let count : length items ≡ length c.nodes-nodes.result.now = c.in_ok-order.ensures.count in
    let here : get_or c.as_mut_slice-places.result.now k d ≡ k = ap (λ (xs : List ℕ). get_or xs k d) order ∙ get_or_default items k d 0 within ∙ c.in_ok-order.ensures.each k (omega (arith, within, count)) in
    omega (arith, here, within, count, ap (λ (xs : List NodeState). length xs) c.nodes-nodes.ensures.value)

pub put_in_order-requires-clause-whole : goal.put_in_order-requires-clause-whole
put_in_order-requires-clause-whole c = λ n below.
    let order = c.as_mut_slice-places.ensures.value in
    let items = c.in_ok-order.order.items in
    let count : length items ≡ length c.nodes-nodes.result.now = c.in_ok-order.ensures.count in
    let nodes : length c.nodes-nodes.result.now ≡ length c.plan-plan.result.now.nodes = ap (λ (xs : List NodeState). length xs) c.nodes-nodes.ensures.value in
    let within : n < length items = omega (arith, below, count, nodes) in
    (n, omega (arith, within, ap (λ (xs : List ℕ). length xs) order), ap (λ (xs : List ℕ). get_or xs n n) order ∙ get_or_default items n n 0 within ∙ c.in_ok-order.ensures.each n (omega (arith, within, count)))

pub returns-clause-before : goal.returns-clause-before
returns-clause-before c =
    let x = c.of.result.value in
    let s = c.args.scene.now in
    let clips = c.in_ok-clips.clips.items in
    let tapes = c.args.tapes.items in
    let made : clips ≡ clips_of s (files_of tapes) =
    clips_are s _ c.as_slice-2.result.now clips c.scene.view_is c.in_ok-clips.ensures ∙ ap (λ (ts : List Tape). clips_of s (files_of ts)) c.as_slice-2.ensures.value in
    let v : x ≡ s = c.of.ensures in
    let same = c.scene.view_is ∙ sym v in
    let is : IsScene x = subst (λ (q : SceneData). IsScene q) same c.scene.invariant in
    let stage : c.in_ok-stage.stage ≡ opening x = c.in_ok-stage.ensures ∙ ap opening (sym v) in
    let lengths : AreFramesOf clips c.as_slice-4.result.now = c.as_slice-4.ensures.value ∙ c.in_ok-lengths.ensures ∙ ap (map (λ (k : SceneClipData). clip_length k.bytes k.rate)) c.as_slice-3.ensures.value in
    let frames : (n : ℕ) → slice_index c.clip_lengths-frames.result n ≡ node_frames clips x n = λ n. c.clip_lengths-frames.ensures clips lengths n ∙ ap (λ (q : SceneData). node_frames clips q n) (sym v) in
    let channels : c.from.result ≡ x.channels = c.from.ensures ∙ ap (λ (q : SceneData). q.channels) same in
    let plan : c.plan-plan.result.now ≡ c.in_ok-stage.stage = c.plan-plan.ensures in
    let nodes : length c.in_ok-stage.stage.nodes ≡ length c.nodes-nodes.result.now = sym (ap (λ (xs : List NodeState). length xs) c.nodes-nodes.ensures.value ∙ ap (λ (q : PlanData). length q.nodes) plan) in
    let buses : length c.in_ok-stage.stage.buses ≡ length c.buses-2.result.now = sym (ap (λ (xs : List Bus). length xs) c.buses-2.ensures.value ∙ ap (λ (q : PlanData). length q.buses) plan) in
    let orders : (with_items c.in_ok-order.order c.put_in_order.new.order).items ≡ c.put_in_order.new.order = with_items_is c.in_ok-order.order c.put_in_order.new.order (omega (arith, c.put_in_order.auto.order, c.as_mut_slice-places.ensures.len)) in
    let sorted : (with_items c.in_ok-ordered_buses.ordered_buses c.put_in_order.new.ordered_buses).items ≡ c.put_in_order.new.ordered_buses = with_items_is c.in_ok-ordered_buses.ordered_buses c.put_in_order.new.ordered_buses (omega (arith, c.put_in_order.auto.ordered_buses, c.as_mut_slice-buses.ensures.len)) in
    let of_clips : clips ≡ clips_of x (files_of tapes) = made ∙ ap (λ (q : SceneData). clips_of q (files_of tapes)) (sym v) in
    let wide = channels_start x (files_of tapes) clips of_clips in
    record {
      of_scene = record { scene_is = is; length_is = ap (λ (q : SceneData). q.length) same; edits_are = c.in_ok-edits.ensures ∙ ap in_order (c.as_slice.ensures ∙ ap (λ (q : SceneData). q.edits) same); channels_are = channels; frames_are = frames };
      time_most = omega arith;
      moment = rw stage (moment_start clips x _ is (λ n. zeros_at _ (limits.most_nodes + 1) n refl));
      playable = record {
        plan_is = subst (λ (q : PlanData). IsPlan q) plan c.put_in_order.ensures.plan;
        channels_least = subst (λ k. 1 ≤ k) (sym channels) is.channels_least;
        channels_most = subst (λ k. k ≤ 2) (sym channels) is.channels_most;
        clips_are = subst (λ k. All (λ (y : SceneClipData). y.channels ≡ k) clips) (sym channels) wide;
        tapes_are = files_are x tapes clips of_clips;
        frames_are = λ n below. frames n ∙ start_frames x clips n (omega (arith, below, ap (λ (q : PlanData). length q.nodes) stage)) ∙ sym (ap (λ (q : PlanData). kind_frames clips (node q n).kind) stage);
        cursors_most = λ n below. let none = zeros_at _ (limits.most_nodes + 1) n refl in omega (arith, none);
        order_is = subst (λ (q : PlanData). IsOrderOf q (with_items c.in_ok-order.order c.put_in_order.new.order).items) plan (subst (λ (xs : List ℕ). IsOrderOf c.plan-plan.result.now xs) (sym orders) c.put_in_order.ensures.order);
        permutation = subst (λ (q : PlanData). IsPermutation q.buses (with_items c.in_ok-ordered_buses.ordered_buses c.put_in_order.new.ordered_buses).items) plan (subst (λ (bs : List Bus). IsPermutation c.plan-plan.result.now.buses bs) (sym sorted) c.put_in_order.ensures.permutation);
        ordered = subst (λ (bs : List Bus). IsOrdered bs) (sym sorted) c.put_in_order.ensures.ordered;
        room_is = c.in_ok-room.ensures c.in_ok-stage.stage nodes buses;
      };
    }

pub returns-clause-clips : goal.returns-clause-clips
returns-clause-clips c =
    let s = c.args.scene.now in
    clips_are s _ c.as_slice-2.result.now c.in_ok-clips.clips.items c.scene.view_is c.in_ok-clips.ensures ∙ ap (λ (ts : List Tape). clips_of s (files_of ts)) c.as_slice-2.ensures.value
