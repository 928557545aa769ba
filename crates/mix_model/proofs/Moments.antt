-- A scene goes on from moment to moment.
use Rattle.std.proofs.Common.{◌≡◌, ℕ, suc, ◌+◌, ◌<◌, ◌≤◌, List, length, drop, refl, sym, ◌∙◌, ap, arith}
use Rattle.std.specs.Prelude.{fold, slice_index}
use Rattle.scene_clips.specs.SceneClipData.{SceneClipData}
use Rattle.scene_model.specs.IsScene.{IsScene}
use Rattle.scene_model.specs.Opening.{opening}
use Rattle.scene_model.specs.Order.{in_order}
use Rattle.scene_model.specs.PlanData.{PlanData}
use Rattle.scene_model.specs.Plans.{after}
use Rattle.scene_model.specs.SceneData.{SceneData}
use Rattle.scene_model.specs.Times.{plan}
use Rattle.mix_model.specs.Due.{due, frame_at, IsNext, AreInOrder, CanMakeAll}
use Rattle.mix_model.specs.Mix.{node_frames, cursor_after_edit, next_cursor}
use Rattle.mix_model.specs.Moments.{Moment, IsBeforeEdits, IsAfterEdits}
use Rattle.mix_model.specs.Spans.{cursor_on, IsQuiet}
use Rattle.mix_model.proofs.Frames.{edits_in_order, plan_due, cursor_due, cursor_more, plan_more}
use Rattle.mix_model.proofs.Spans.{quiet_until, plan_end, cursor_end}
use Rattle.mix_model.proofs.Starting.{plan_start, cursor_start, next_start, can_start}

pub moment_start : (clips : List SceneClipData) (s : SceneData) (cursors : List ℕ) → IsScene s → ((n : ℕ) → slice_index cursors n ≡ 0) → IsBeforeEdits clips s (record { plan = opening s; time = 0; place = 0; cursors = cursors })
moment_start clips s cursors is zeros = record {
  plan_is = sym (plan_start s);
  cursors_are = λ n. zeros n ∙ sym (cursor_start clips s n);
  next = next_start (in_order s.edits);
  can = can_start s (in_order s.edits) is refl;
}

pub order_is : (s : SceneData) → AreInOrder (in_order s.edits)
order_is s = edits_in_order s (in_order s.edits) refl

-- the edits of the frame are made
pub edits_made : (clips : List SceneClipData) (s : SceneData) (m : Moment) (frames : List ℕ) (p : PlanData) (place : ℕ) (cursors : List ℕ) → IsBeforeEdits clips s m → ((n : ℕ) → slice_index frames n ≡ node_frames clips s n) → IsNext (in_order s.edits) (m.time + 1) place
    → p ≡ fold after m.plan (due (in_order s.edits) m.time) → CanMakeAll p (drop place (in_order s.edits))
    → ((n : ℕ) → slice_index cursors n ≡ fold (cursor_after_edit n (slice_index frames n)) (slice_index m.cursors n) (due (in_order s.edits) m.time))
    → IsAfterEdits clips s (record { plan = p; time = m.time; place = place; cursors = cursors })
edits_made clips s m frames p place cursors before frames_are next made can moved = record {
  plan_is = plan_due s (in_order s.edits) m.time m.plan p refl before.plan_is made;
  cursors_are = λ n. cursor_due s clips (in_order s.edits) m.time n (slice_index frames n) (slice_index m.cursors n) (slice_index cursors n) refl (frames_are n) (before.cursors_are n) (moved n);
  next = next;
  can = can;
}

-- the frame is played
pub frame_played : (clips : List SceneClipData) (s : SceneData) (m : Moment) (cursors : List ℕ) → IsAfterEdits clips s m → ((n : ℕ) → slice_index cursors n ≡ next_cursor m.plan m.time n (node_frames clips s n) (slice_index m.cursors n)) → IsBeforeEdits clips s (record { plan = m.plan; time = m.time + 1; place = m.place; cursors = cursors })
frame_played clips s m cursors at moved = record {
  plan_is = at.plan_is ∙ plan_more s m.time;
  cursors_are = λ n.
      moved n ∙ ap (λ p. next_cursor p m.time n (node_frames clips s n) (slice_index m.cursors n)) at.plan_is
      ∙ ap (next_cursor (plan s m.time) m.time n (node_frames clips s n)) (at.cursors_are n) ∙ sym (cursor_more clips s n m.time);
  next = at.next;
  can = at.can;
}

-- so many frames are played, where no edit falls on those after the first
pub frames_played : (clips : List SceneClipData) (s : SceneData) (m : Moment) (count : ℕ) (cursors : List ℕ) → IsAfterEdits clips s m → ((k : ℕ) → m.place ≤ k → k < length (in_order s.edits) → m.time + suc count ≤ frame_at (in_order s.edits) k)
    → ((n : ℕ) → slice_index cursors n ≡ cursor_on m.plan m.time n (node_frames clips s n) (slice_index m.cursors n) (suc count))
    → IsBeforeEdits clips s (record { plan = m.plan; time = m.time + suc count; place = m.place; cursors = cursors })
frames_played clips s m count cursors at later moved =
    let quiet : IsQuiet s.edits m.time (suc count) = quiet_until s (in_order s.edits) m.time m.place (suc count) refl at.next later in
    record {
      plan_is = at.plan_is ∙ sym (plan_end s m.time count quiet);
      cursors_are = λ n.
          moved n ∙ ap (λ p. cursor_on p m.time n (node_frames clips s n) (slice_index m.cursors n) (suc count)) at.plan_is
          ∙ ap (λ c. cursor_on (plan s m.time) m.time n (node_frames clips s n) c (suc count)) (at.cursors_are n) ∙ sym (cursor_end clips s m.time count n quiet);
      next = record {
        within = at.next.within;
        earlier = λ k below. let early = at.next.earlier k below in omega arith;
        waiting = later;
      };
      can = at.can;
    }
