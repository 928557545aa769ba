-- A playback of which no more than its marks, its room, its clips and its tapes has changed.
use Rattle.std.proofs.Common.{◌≡◌, ℕ, List, map, sym, ◌∙◌, ap, subst}
use Rattle.std.specs.Prelude.{All, slice_index}
use Rattle.scene_clips.specs.SceneClipData.{SceneClipData}
use Rattle.mix_model.specs.Mix.{kind_frames, node_frames}
use Rattle.mix_model.specs.Moments.{IsAfterEdits}
use Rattle.mix_model.specs.Pulled.{node}
use Rattle.mix_model.specs.Spans.{IsSteady}
use Rattle.scene_model.specs.PlanData.{PlanData}
use Rattle.resource_mgr.specs.Tapes.{AreLater}
use Rattle.resource_mgr.specs.declared.tape.Tape.{Tape}
use Rattle.resource_mgr.proofs.Tapes.{laters_files, laters_refl}
use Rattle.engine.specs.declared.playback.Playback.{Playback}
use Rattle.engine.specs.declared.room.Room.{Room}
use Rattle.engine.specs.Nodes.{IsPlayable, IsSpanOf}
use Rattle.engine.specs.Playing.{IsAt, moment_of}
use Rattle.engine.specs.Room.{IsRoomFor}
use Rattle.engine.specs.Span.{Span}

pub playable_still : (p q : Playback) → IsPlayable p → q ≡ record p { marks = q.marks; room = q.room; clips = q.clips; tapes = q.tapes }
    → q.clips.items ≡ p.clips.items → AreLater p.tapes.items q.tapes.items → IsRoomFor p.stage q.room → IsPlayable q
playable_still p q is same clips tapes room = subst IsPlayable (sym same) (record {
  plan_is = is.plan_is;
  channels_least = is.channels_least;
  channels_most = is.channels_most;
  clips_are = subst (All (λ (c : SceneClipData). c.channels ≡ p.channels)) (sym clips) is.clips_are;
  tapes_are = laters_files p.tapes.items q.tapes.items tapes ∙ is.tapes_are ∙ sym (ap (map (λ (c : SceneClipData). c.bytes)) clips);
  frames_are = λ n below. is.frames_are n below ∙ ap (λ (cs : List SceneClipData). kind_frames cs (node p.stage n).kind) (sym clips);
  cursors_most = is.cursors_most;
  order_is = is.order_is;
  permutation = is.permutation;
  ordered = is.ordered;
  room_is = room;
})

pub at_still : (p q : Playback) → IsAt p → q ≡ record p { marks = q.marks; room = q.room; clips = q.clips; tapes = q.tapes }
    → q.clips.items ≡ p.clips.items → AreLater p.tapes.items q.tapes.items → IsRoomFor p.stage q.room → IsAt q
at_still p q at same clips tapes room = subst IsAt (sym same) (record {
  of_scene = record {
    scene_is = at.of_scene.scene_is;
    length_is = at.of_scene.length_is;
    edits_are = at.of_scene.edits_are;
    channels_are = at.of_scene.channels_are;
    frames_are = λ n. at.of_scene.frames_are n ∙ ap (λ (cs : List SceneClipData). node_frames cs p.scene.value n) (sym clips);
  };
  time_most = at.time_most;
  moment = subst (λ (cs : List SceneClipData). IsAfterEdits cs p.scene.value (moment_of p)) (sym clips) at.moment;
  playable = subst IsPlayable same (playable_still p q at.playable same clips tapes room);
})

-- the same of one whose marks stay too
pub marks_too : (p q : Playback) → q ≡ record p { room = q.room; clips = q.clips; tapes = q.tapes } → q ≡ record p { marks = q.marks; room = q.room; clips = q.clips; tapes = q.tapes }
marks_too p q same = same ∙ ap (λ m. record p { marks = m; room = q.room; clips = q.clips; tapes = q.tapes }) (sym (ap (λ (x : Playback). x.marks) same))

-- ---- the same as one fact

pub record IsStill (p q : Playback) : Type 0 where
  pub same : q ≡ record p { marks = q.marks; room = q.room; clips = q.clips; tapes = q.tapes }
  pub clips : q.clips.items ≡ p.clips.items
  pub tapes : AreLater p.tapes.items q.tapes.items
  pub room : IsRoomFor p.stage q.room

pub still_playable : (p q : Playback) → IsPlayable p → IsStill p q → IsPlayable q
still_playable p q is still = playable_still p q is still.same still.clips still.tapes still.room

-- once it was marked, and its nodes were rendered
pub still_rendered : (p m q : Playback) → m ≡ record p { marks = m.marks } → q ≡ record m { room = q.room; clips = q.clips; tapes = q.tapes }
    → q.clips.items ≡ m.clips.items → AreLater m.tapes.items q.tapes.items → IsRoomFor m.stage q.room → IsStill p q
still_rendered p m q marked same clips tapes room = record {
  same = same
      ∙ ap (λ (x : Playback). record x { room = q.room; clips = q.clips; tapes = q.tapes }) marked
      ∙ ap (λ marks. record p { marks = marks; room = q.room; clips = q.clips; tapes = q.tapes }) (sym (ap (λ (x : Playback). x.marks) same));
  clips = clips ∙ ap (λ (x : Playback). x.clips.items) marked;
  tapes = subst (λ (ts : List Tape). AreLater ts q.tapes.items) (ap (λ (x : Playback). x.tapes.items) marked) tapes;
  room = subst (λ (x : PlanData). IsRoomFor x q.room) (ap (λ (x : Playback). x.stage) marked) room;
}

-- and the endpoint was mixed
pub still_mixed : (p q e : Playback) → IsStill p q → e ≡ record q { room = e.room } → IsRoomFor q.stage e.room → IsStill p e
still_mixed p q e still same room =
    let stage : q.stage ≡ p.stage = ap (λ (x : Playback). x.stage) still.same in
    record {
      same = same
          ∙ ap (λ (x : Playback). record x { room = e.room }) still.same
          ∙ ap (λ marks. record p { marks = marks; room = e.room; clips = q.clips; tapes = q.tapes }) (sym (ap (λ (x : Playback). x.marks) same))
          ∙ ap (λ clips. record p { marks = e.marks; room = e.room; clips = clips; tapes = q.tapes }) (sym (ap (λ (x : Playback). x.clips) same))
          ∙ ap (λ tapes. record p { marks = e.marks; room = e.room; clips = e.clips; tapes = tapes }) (sym (ap (λ (x : Playback). x.tapes) same));
      clips = ap (λ (x : Playback). x.clips.items) same ∙ still.clips;
      tapes = subst (λ (ts : List Tape). AreLater p.tapes.items ts) (sym (ap (λ (x : Playback). x.tapes.items) same)) still.tapes;
      room = subst (λ (x : PlanData). IsRoomFor x e.room) stage room;
    }

-- a span of it
pub span_still : (s : Span) (p q : Playback) (count : ℕ) → IsStill p q → IsSpanOf s p count → IsSpanOf s q count
span_still s p q count still span =
    let stage : q.stage ≡ p.stage = ap (λ (x : Playback). x.stage) still.same in
    let time : q.time ≡ p.time = ap (λ (x : Playback). x.time) still.same in
    record {
      plan_is = span.plan_is ∙ sym stage;
      time_is = span.time_is ∙ sym time;
      channels_are = span.channels_are ∙ sym (ap (λ (x : Playback). x.channels) still.same);
      steady = subst (λ t. IsSteady q.stage t count) (sym time) (subst (λ (x : PlanData). IsSteady x p.time count) (sym stage) span.steady);
      clips_are = span.clips_are ∙ sym still.clips;
      cursors_are = λ n. span.cursors_are n ∙ sym (ap (λ (x : Playback). slice_index x.cursors n) still.same);
      frames_are = λ n. span.frames_are n ∙ sym (ap (λ (x : Playback). slice_index x.frames n) still.same);
    }

-- one that is only marked
pub still_marked : (p m : Playback) → IsPlayable p → m ≡ record p { marks = m.marks } → IsStill p m
still_marked p m is marked = record {
  same = marked
      ∙ ap (λ room. record p { marks = m.marks; room = room }) (sym (ap (λ (x : Playback). x.room) marked))
      ∙ ap (λ clips. record p { marks = m.marks; room = m.room; clips = clips }) (sym (ap (λ (x : Playback). x.clips) marked))
      ∙ ap (λ tapes. record p { marks = m.marks; room = m.room; clips = m.clips; tapes = tapes }) (sym (ap (λ (x : Playback). x.tapes) marked));
  clips = ap (λ (x : Playback). x.clips.items) marked;
  tapes = subst (λ (ts : List Tape). AreLater p.tapes.items ts) (sym (ap (λ (x : Playback). x.tapes.items) marked)) (laters_refl p.tapes.items);
  room = subst (λ (r : Room). IsRoomFor p.stage r) (sym (ap (λ (x : Playback). x.room) marked)) is.room_is;
}
