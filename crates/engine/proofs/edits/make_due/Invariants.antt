use Rattle.std.proofs.Common.{◌≡◌, ◌<◌, ◌≤◌, ◌-◌, ℕ, false, length, drop}
use Rattle.std.specs.Prelude.{fold, slice_index}
use Rattle.scene_model.specs.Plans.{after}
use Rattle.mix_model.specs.Due.{due, CanMakeAll, frame_at}
use Rattle.mix_model.specs.Mix.{cursor_after_edit}
use Rattle.engine.proofs.edits.make_due.Given as goal

abbrev pub invariant-loop-next : goal.invariant-loop-next
invariant-loop-next l = record {
  within : l.next ≤ length l.edits;
  least : l.initial.next ≤ l.next;
  made : (k : ℕ) → l.initial.next ≤ k → k < l.next → frame_at l.edits k ≡ l.time;
  can : CanMakeAll l.stage (drop l.next l.edits);
  same : l.buses ≡ false → l.stage.buses ≡ l.initial.stage.buses;
  nodes : length l.stage.nodes ≡ length l.initial.stage.nodes;
  plan : fold after l.stage (due (drop l.next l.edits) l.time) ≡ fold after l.initial.stage (due (drop l.initial.next l.edits) l.time);
  cursors : (n : ℕ) → fold (cursor_after_edit n (slice_index l.frames n)) (slice_index l.cursors n) (due (drop l.next l.edits) l.time) ≡ fold (cursor_after_edit n (slice_index l.frames n)) (slice_index l.initial.cursors n) (due (drop l.initial.next l.edits) l.time);
}

abbrev pub decreases-loop-next : goal.decreases-loop-next
decreases-loop-next l = length l.edits - l.next
