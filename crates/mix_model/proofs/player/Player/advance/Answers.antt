use Rattle.std.proofs.Common.{arith, sym, ◌∙◌, ap, subst, ◌≡◌, ℕ, List, length}
use Rattle.std.specs.Prelude.{slice_index}
use Rattle.std.specs.List.Sorted.{IsPermutation}
use Rattle.scene_model.specs.declared.bus.Bus.{Bus}
use Rattle.scene_model.specs.PlanData.{PlanData}
use Rattle.mix_model.specs.Mix.{node_frames, cursor}
use Rattle.mix_model.specs.OrderedBuses.{AreOrderedBuses}
use Rattle.mix_model.proofs.Frames.{cursor_next, plan_more}
use Rattle.mix_model.proofs.ScenePlans.{ordered_buses_are, nodes_at}
use Rattle.mix_model.proofs.player.Player.advance.Goals as goal

pub mark_pulled-requires-clause-ordered_buses : goal.mark_pulled-requires-clause-ordered_buses
mark_pulled-requires-clause-ordered_buses c =
    let p = c.args.self.now.plan in
    let are : AreOrderedBuses (length p.nodes) c.args.self.now.ordered_buses.items = ordered_buses_are p c.args.self.now.ordered_buses.items c.nodes-nodes.ensures.plan c.requires.permutation c.requires.ordered in
    rw (c.nodes-nodes.ensures.value, c.as_slice.ensures.value) are

pub returns-clause-before : goal.returns-clause-before
returns-clause-before c =
    let s = c.args.scene.now in
    let p = c.args.self.now in
    let at = c.requires in
    let nodes = c.nodes-nodes.result.now in
    let count = ap (λ (q : PlanData). length q.nodes) at.moment.plan_is ∙ nodes_at s p.time in
    let frames_are : (n : ℕ) → slice_index c.as_slice-2.result.now n ≡ node_frames p.clips.items s n = λ n. ap (λ (xs : List ℕ). slice_index xs n) c.as_slice-2.ensures ∙ at.player.frames_are n in
    let cursors_are : (n : ℕ) → slice_index c.as_mut_slice-2.result.now n ≡ cursor p.clips.items s n p.time = λ n. ap (λ (xs : List ℕ). slice_index xs n) c.as_mut_slice-2.ensures.value ∙ at.moment.cursors_are n in
    let moves : IsPermutation p.plan.buses c.as_slice.result.now = subst (λ (bs : List Bus). IsPermutation p.plan.buses bs) (sym c.as_slice.ensures.value) at.permutation in
    record {
      player = record { scene_is = at.player.scene_is; edits_are = at.player.edits_are; channels_are = at.player.channels_are; frames_are = at.player.frames_are };
      time_most = omega arith;
      moment = record {
        plan_is = at.moment.plan_is ∙ plan_more s p.time;
        cursors_are = λ n. cursor_next s p.clips.items p.time n p.plan nodes c.as_slice.result.now c.mark_pulled.new.marks c.as_slice-2.result.now c.as_mut_slice-2.result.now c.advance_cursors.new.cursors c.nodes-nodes.ensures.value at.moment.plan_is moves count (frames_are n) (cursors_are n) c.mark_pulled.ensures (c.advance_cursors.ensures.moved n) (c.advance_cursors.ensures.rest n);
        next = at.moment.next;
        can = at.moment.can;
      };
      permutation = at.permutation;
      ordered = at.ordered;
    }
