use Rattle.std.proofs.Common.{◌≡◌, ◌+◌, ◌≤◌, List, map, sym, ◌∙◌, ap, subst}
use Rattle.std.specs.Prelude.{All, slice_index}
use Rattle.std.proofs.lemmas.Result.{err_from_is_err_and}
use Rattle.scene_clips.specs.SceneClipData.{SceneClipData}
use Rattle.mix_model.specs.Mix.{kind_frames, node_frames}
use Rattle.mix_model.specs.Moments.{IsBeforeEdits}
use Rattle.mix_model.specs.Pulled.{node}
use Rattle.resource_mgr.proofs.Tapes.{laters_files}
use Rattle.engine.specs.Playing.{IsBefore}
use Rattle.engine.proofs.CursorsWithin.{before_most}
use Rattle.engine.proofs.Needed.{reads_page}
use Rattle.engine.proofs.SpanPlayed.{is_span, span_heard, span_of, span_played}
use Rattle.engine.proofs.StillPlayable.{at_still}
use Rattle.engine.proofs.playback.Playback.play_span.Goals as goal

pub returns-clause-before : goal.returns-clause-before
returns-clause-before c =
    let p = c.args.self.now in
    let q = c.render_span.new.self in
    let did = c.in_ok-render_span.ensures in
    let clips = did.clips in
    let at = c.requires.at in
    let t = p.time + c.args.count in
    let moment : IsBeforeEdits p.clips.items p.scene.value (record { plan = p.stage; time = t; place = p.place; cursors = q.cursors }) =
    span_played p c.args.count q.cursors at c.requires.some c.requires.quiet c.requires.steady did.moved did.rest in
    let is = at.playable in
    subst IsBefore (sym did.ok) (record {
      of_scene = record {
        scene_is = at.of_scene.scene_is;
        length_is = at.of_scene.length_is;
        edits_are = at.of_scene.edits_are;
        channels_are = at.of_scene.channels_are;
        frames_are = λ n. at.of_scene.frames_are n ∙ ap (λ (cs : List SceneClipData). node_frames cs p.scene.value n) (sym clips);
      };
      time_most = c.requires.within;
      moment = subst (λ (cs : List SceneClipData). IsBeforeEdits cs p.scene.value (record { plan = p.stage; time = t; place = p.place; cursors = q.cursors })) (sym clips) moment;
      playable = record {
        plan_is = is.plan_is;
        channels_least = is.channels_least;
        channels_most = is.channels_most;
        clips_are = subst (All (λ (x : SceneClipData). x.channels ≡ p.channels)) (sym clips) is.clips_are;
        tapes_are = laters_files p.tapes.items q.tapes.items did.tapes ∙ is.tapes_are ∙ sym (ap (map (λ (x : SceneClipData). x.bytes)) clips);
        frames_are = λ n below. is.frames_are n below ∙ ap (λ (cs : List SceneClipData). kind_frames cs (node p.stage n).kind) (sym clips);
        cursors_most = λ n below. subst (λ k. slice_index q.cursors n ≤ k) (sym (at.of_scene.frames_are n))
            (subst (λ k. k ≤ node_frames p.clips.items p.scene.value n) (sym (moment.cursors_are n)) (before_most p.clips.items p.scene.value n t));
        order_is = is.order_is;
        permutation = is.permutation;
        ordered = is.ordered;
        room_is = did.room;
      };
    })

pub returns-clause-here : goal.returns-clause-here
returns-clause-here c = λ j below.
    let p = c.args.self.now in
    let at = c.requires.at in
    c.in_ok-render_span.ensures.here (span_of p) (is_span p c.args.count at c.requires.steady) j below
    ∙ span_heard p c.args.count j at at.playable.channels_least c.requires.quiet below

pub returns-in_err-render_span-clause-at : goal.returns-in_err-render_span-clause-at
returns-in_err-render_span-clause-at c =
    let did = c.in_err-render_span.ensures in
    let e = err_from_is_err_and c.from_residual.result c.from_residual.ensures.1 in
    rw e.1 (at_still c.args.self.now c.render_span.new.self c.requires.at did.err did.clips did.tapes did.room)

pub returns-in_err-render_span-clause-need : goal.returns-in_err-render_span-clause-need
returns-in_err-render_span-clause-need c =
    let p = c.args.self.now in
    let need = c.in_err-render_span.field-0.0 in
    let did = c.in_err-render_span.ensures in
    let e = err_from_is_err_and c.from_residual.result c.from_residual.ensures.1 in
    rw (e.1, e.2) (reads_page p c.render_span.new.self.tapes.items c.args.count need.resource need.page need.shown c.requires.at c.requires.quiet c.requires.steady did.need, did.need.misses.tape)
