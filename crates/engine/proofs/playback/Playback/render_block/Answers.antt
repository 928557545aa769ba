use Rattle.std.proofs.Common.{List, refl, ◌∙◌, subst, arith}
use Rattle.std.proofs.lemmas.Result.{err_from_is_err_and}
use Rattle.scene_clips.specs.SceneClipData.{SceneClipData}
use Rattle.scene_model.specs.SceneData.{SceneData}
use Rattle.resource_mgr.proofs.Tapes.{laters_refl, laters_trans}
use Rattle.engine.specs.Needs.{ReadsPage}
use Rattle.engine.proofs.Needed.{not_shown_of, reads_before}
use Rattle.engine.proofs.playback.Playback.render_block.Goals as goal

pub loop-self-init : goal.loop-self-init
loop-self-init c = record { standing = c.requires.standing; scene = refl; clips = refl; tapes = laters_refl c.args.self.now.tapes.items }

pub loop-self-preserved : goal.loop-self-preserved
loop-self-preserved c =
    let now = c.loop-self.invariant in
    let did = c.in_ok-render_next_span.ensures in
    record {
      standing = did.standing;
      scene = did.scene ∙ now.scene;
      clips = did.clips ∙ now.clips;
      tapes = laters_trans c.args.self.now.tapes.items c.loop-self.self.tapes.items c.render_next_span.new.self.tapes.items now.tapes did.tapes;
    }

pub returns-in_err-render_next_span-clause-tapes : goal.returns-in_err-render_next_span-clause-tapes
returns-in_err-render_next_span-clause-tapes c =
    laters_trans c.args.self.now.tapes.items c.loop-self.self.tapes.items c.render_next_span.new.self.tapes.items c.loop-self.invariant.tapes c.in_err-render_next_span.ensures.tapes

pub returns-in_err-render_next_span-clause-need : goal.returns-in_err-render_next_span-clause-need
returns-in_err-render_next_span-clause-need c =
    let p = c.args.self.now in
    let q = c.loop-self.self in
    let new = c.render_next_span.new.self in
    let now = c.loop-self.invariant in
    let from = now.standing.from in
    let need = c.in_err-render_next_span.field-0.0 in
    let did = c.in_err-render_next_span.ensures.need in
    let e = err_from_is_err_and c.from_residual.result c.from_residual.ensures.1 in
    rw (e.1, e.2) (
      subst (λ (cs : List SceneClipData). ReadsPage cs p.scene.value c.args.start c.args.end need.resource need.page) now.clips
          (subst (λ (s : SceneData). ReadsPage q.clips.items s c.args.start c.args.end need.resource need.page) now.scene
          (reads_before q.clips.items q.scene.value c.args.start q.time c.args.end c.args.end need.resource need.page from (omega arith) did.0)),
      not_shown_of p.tapes.items q.tapes.items new.tapes.items need.resource need.page need.shown now.tapes did.1,
    )
