use Rattle.std.proofs.Common.{◌+◌, arith, refl, sym, ap, ◌∙◌, subst, List, map}
use Rattle.std.specs.List.Sorted.{IsPermutation}
use Rattle.clip_decode.specs.ClipData.{ClipData}
use Rattle.scene_model.specs.declared.bus.Bus.{Bus}
use Rattle.scene_model.specs.IsScene.{IsScene}
use Rattle.scene_model.specs.Limits as limits
use Rattle.scene_model.specs.Order.{in_order}
use Rattle.scene_model.specs.Reach.{HasNoCycle}
use Rattle.scene_model.specs.SceneData.{SceneData}
use Rattle.scene_clips.specs.SceneClipData.{SceneClipData}
use Rattle.scene_clips.specs.ClipFrames.{clip_length}
use Rattle.mix_model.proofs.Deepening.{zeros_at}
use Rattle.mix_model.proofs.Moments.{moment_start}
use Rattle.mix_model.proofs.Starting.{channels_start}
use Rattle.mix_model.proofs.player.Player.new.Goals as goal

pub topological_order-requires-clause-no_cycle : goal.topological_order-requires-clause-no_cycle
topological_order-requires-clause-no_cycle c = subst (λ (bs : List Bus). HasNoCycle bs) (sym c.buses.ensures.value) c.buses.ensures.plan.no_cycle

pub topological_order-requires-clause-most : goal.topological_order-requires-clause-most
topological_order-requires-clause-most c = rw c.buses.ensures.value c.buses.ensures.plan.buses_most

pub returns-clause-before : goal.returns-clause-before
returns-clause-before c =
    let s = c.args.scene.now in
    let is : IsScene s = subst (λ (q : SceneData). IsScene q) c.scene.view_is c.scene.invariant in
    let plan = c.in_ok-plan.plan in
    let clips = c.in_ok-clips.clips.items in
    let edits_are = c.in_ok-edits.ensures ∙ ap in_order (c.as_slice.ensures ∙ ap (λ (q : SceneData). q.edits) c.scene.view_is) in
    record {
      player = record {
        scene_is = is;
        edits_are = edits_are;
        channels_are = channels_start s (map (λ (x : ClipData). x.bytes) c.args.clips.now) clips c.in_ok-clips.ensures;
        frames_are = c.clip_lengths-frames.ensures clips
            (c.as_slice-3.ensures.value ∙ c.in_ok-lengths.ensures ∙ ap (map (λ (k : SceneClipData). clip_length k.bytes k.rate)) c.as_slice-2.ensures.value);
      };
      time_most = omega arith;
      moment = rw c.in_ok-plan.ensures (moment_start clips s _ is (λ n. zeros_at _ (limits.most_nodes + 1) n refl));
      permutation = subst (λ (bs : List Bus). IsPermutation bs c.in_ok-ordered_buses.ordered_buses.items) c.buses.ensures.value c.in_ok-ordered_buses.ensures.permutation;
      ordered = c.in_ok-ordered_buses.ensures.ordered;
    }
