use Rattle.std.proofs.Common.{arith, sym, ◌∙◌, ap, subst, rules, ◌≡◌, ℕ, pos, List, length, get_or, FitsSigned, w32, w64, to_z, of_z}
use Rattle.std.specs.Prelude.{slice_index}
use Rattle.std.specs.List.Sorted.{IsPermutation}
use Rattle.std.proofs.lemmas.Int.{ints}
use Rattle.mix_fixed.specs.Sound.{sat24}
use Rattle.scene_model.specs.declared.bus.Bus.{Bus}
use Rattle.scene_model.specs.declared.node_state.NodeState.{NodeState}
use Rattle.scene_model.specs.PlanData.{PlanData}
use Rattle.scene_model.specs.Times.{plan}
use Rattle.mix_model.specs.Mix.{cursor, frame_state}
use Rattle.mix_model.specs.Signals.{input}
use Rattle.mix_model.specs.OrderedBuses.{AreOrderedBuses, frame_state_of}
use Rattle.mix_model.proofs.Frames.{input_is, frame_more}
use Rattle.mix_model.proofs.ScenePlans.{ordered_buses_are}
use Rattle.mix_model.proofs.player.Player.sound.Goals as goal

pub inputs-requires-clause-ordered_buses : goal.inputs-requires-clause-ordered_buses
inputs-requires-clause-ordered_buses c =
    let p = c.args.self.now.plan in
    let are : AreOrderedBuses (length p.nodes) c.args.self.now.ordered_buses.items = ordered_buses_are p c.args.self.now.ordered_buses.items c.nodes-nodes.ensures.plan c.requires.permutation c.requires.ordered in
    rw (c.nodes-nodes.ensures.value, c.as_slice-ordered_buses.ensures.value) are

pub loop-channel-preserved : goal.loop-channel-preserved
loop-channel-preserved c =
    let s = c.args.scene.now in
    let p = c.args.self.now in
    let t = p.time in
    let channel = c.loop-channel.channel in
    let nodes = c.nodes-nodes.result.now in
    let m = frame_state p.clips.items s t in
    let z = get_or c.inputs.new.sums (length nodes) (pos 0) in
    let fits : FitsSigned w64 z = search rules in
    let whole : to_z w64 (of_z w64 z) ≡ z = omega (arith, ints) in
    let range = c.sat24.ensures.range in
    let kept : to_z w32 (of_z w32 c.sat24.result) ≡ c.sat24.result = omega (arith, ints) in
    let nodes_are : nodes ≡ (plan s t).nodes = c.nodes-nodes.ensures.value ∙ ap (λ (q : PlanData). q.nodes) c.requires.moment.plan_is in
    let moves : IsPermutation p.plan.buses c.as_slice-ordered_buses.result.now = subst (λ (bs : List Bus). IsPermutation p.plan.buses bs) (sym c.as_slice-ordered_buses.ensures.value) c.requires.permutation in
    let cursors_are : (n : ℕ) → slice_index c.as_slice-cursors.result.now n ≡ cursor p.clips.items s n t = λ n. ap (λ (xs : List ℕ). slice_index xs n) c.as_slice-cursors.ensures ∙ c.requires.moment.cursors_are n in
    let value =
    c.sat24.ensures.nearest ∙ ap sat24 whole ∙ c.inputs.ensures (length nodes) (omega arith)
    ∙ ap (λ cs. input (frame_state_of nodes c.as_slice-ordered_buses.result.now t cs c.as_slice-cursors.result.now) channel (length nodes)) c.as_slice-clips.ensures.value
    ∙ input_is s p.clips.items t p.plan nodes c.as_slice-ordered_buses.result.now c.as_slice-cursors.result.now channel (length nodes) c.nodes-nodes.ensures.value c.requires.moment.plan_is moves cursors_are
    ∙ ap (λ (ns : List NodeState). input m channel (length ns)) nodes_are in
    frame_more m channel c.loop-channel.samples.items c.args.samples.now.items c.push.new.self.items c.sat24.result _ c.loop-channel.invariant c.in_ok-push.ensures.items kept value
