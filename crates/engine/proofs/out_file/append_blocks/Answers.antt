use Rattle.std.proofs.Common.{refl, sym, subst, ap, ◌∙◌, ◌≡◌, ◌++◌, ◌-◌, ◌≤◌, ℕ, List, [], arith}
use Rattle.std.proofs.lemmas.Result.{err_from_is_err_and}
use Rattle.snd_io.specs.Answers.{IsPrefix}
use Rattle.snd_io.specs.Runs.{GrowsBy}
use Rattle.snd_io.proofs.RunLemmas.{GrowsBy-nothing, GrowsBy-then}
use Rattle.clip_decode.specs.Frames.{interleaved}
use Rattle.scene_model.specs.SceneData.{SceneData}
use Rattle.mix_model.specs.Mix.{clips_of, frames_from}
use Rattle.mix_model.specs.Rendering.{data_of, summary_of}
use Rattle.mix_model.proofs.Written.{data-join}
use Rattle.resource_mgr.specs.Tapes.{files_of}
use Rattle.resource_mgr.proofs.Tapes.{laters_files}
use Rattle.engine.specs.RendererData.{RendererData}
use Rattle.engine.specs.Rendering.{frames_before}
use Rattle.engine.proofs.Appending.{ended, stays_open, stopped_piece}
use Rattle.engine.proofs.out_file.append_blocks.Goals as goal

-- what was written so far is a prefix of all
data_rest : (s : SceneData) (files : List (List ℕ)) (t : ℕ) → t ≤ s.length → IsPrefix (data_of s (frames_before s files t)) (data_of s (frames_from (clips_of s files) s 0 s.length))
data_rest s files t within = (data_of s (frames_from (clips_of s files) s t (s.length - t)), data-join (clips_of s files) s t (s.length - t) s.length (omega (arith, within)))

pub loop-scene-init : goal.loop-scene-init
unfolding interleaved
loop-scene-init g c =
    let s = c.args.scene.now in
    let r = c.args.renderer.now in
    let start = ap (λ (x : RendererData). x.clock) c.requires.opened in
    let empty : data_of s (frames_before s (files_of r.tapes) r.clock) ≡ [] = ap (λ t. data_of s (frames_before s (files_of r.tapes) t)) start in
    record {
      scene = ap (λ (x : RendererData). x.scene) c.requires.opened;
      files = refl;
      shows = c.requires.shows;
      fresh = (ap (λ (x : RendererData). x.next) c.requires.opened, ap (λ (x : RendererData). x.ready) c.requires.opened);
      within = omega (arith, start);
      summary_is = c.empty-summary.ensures ∙ sym (ap (λ t. summary_of s (frames_before s (files_of r.tapes) t)) start);
      number_most = omega arith;
      room = refl;
      writing = refl;
      grown = λ name is. subst (λ (bytes : List ℕ). GrowsBy name bytes (g.D.Depot.files c.args.depot.now) (g.D.Depot.files c.args.depot.now)) (sym empty) (GrowsBy-nothing name (g.D.Depot.files c.args.depot.now));
      faults = refl;
    }

pub loop-scene-preserved : goal.loop-scene-preserved
loop-scene-preserved g c =
    let s = c.args.scene.now in
    let files = files_of c.args.renderer.now.tapes in
    let now = c.loop-scene.invariant in
    let did = c.in-Ok.ensures in
    let r = c.loop-scene.renderer in
    let q = c.next_block.new.renderer in
    let bytes = subst (λ (fs : List (List ℕ)). data_of s (frames_before s fs q.clock) ≡ data_of s (frames_before s fs r.clock) ++ c.next_block.new.bytes.items) now.files did.bytes in
    let joined = bytes ∙ ap (λ xs. data_of s (frames_before s files r.clock) ++ xs) (sym c.as_slice.ensures.value) in
    record {
      scene = ap (λ (x : RendererData). x.scene) did.next ∙ now.scene;
      files = laters_files r.tapes q.tapes did.tapes ∙ now.files;
      shows = did.shows;
      fresh = (ap (λ (x : RendererData). x.next) did.next ∙ now.fresh.0, ap (λ (x : RendererData). x.ready) did.next ∙ now.fresh.1);
      within = did.within;
      summary_is = subst (λ (fs : List (List ℕ)). c.loop-scene.summary ≡ summary_of s (frames_before s fs r.clock) → c.in-Ok.more ≡ summary_of s (frames_before s fs q.clock)) now.files did.summary now.summary_is;
      number_most = omega (arith, now.number_most, did.later);
      room = c.next_block.auto.samples ∙ now.room;
      writing = stays_open _ _ c.requires.writing (λ name is. (c.in_ok-append.ensures.after name (now.writing ∙ is)).1);
      grown = λ name is. subst (λ (bytes : List ℕ). GrowsBy name bytes (g.D.Depot.files c.args.depot.now) (g.D.Depot.files c.append.new.depot)) (sym joined)
          (GrowsBy-then name (data_of s (frames_before s files r.clock)) c.as_slice.result.now _ _ _ (now.grown name is) (c.in_ok-append.ensures.after name (now.writing ∙ is)).0);
      faults = c.in_ok-append.ensures.cause.stays refl ∙ now.faults;
    }

pub returns-in-Err-clause-after : goal.returns-in-Err-clause-after
returns-in-Err-clause-after g c = λ name is.
    let s = c.args.scene.now in
    let files = files_of c.args.renderer.now.tapes in
    let now = c.loop-scene.invariant in
    ended c.without_memory.result name (data_of s (frames_before s files c.loop-scene.renderer.clock)) (data_of s (frames_from (clips_of s files) s 0 s.length)) _ _ _ _
    (data_rest s files c.loop-scene.renderer.clock now.within) (now.grown name is) c.without_memory.ensures.files c.without_memory.ensures.closed

pub returns-in_err-append-clause-after : goal.returns-in_err-append-clause-after
returns-in_err-append-clause-after g c = λ name is.
    let s = c.args.scene.now in
    let files = files_of c.args.renderer.now.tapes in
    let now = c.loop-scene.invariant in
    let did = c.in-Ok.ensures in
    let r = c.loop-scene.renderer in
    let q = c.next_block.new.renderer in
    let bytes = subst (λ (fs : List (List ℕ)). data_of s (frames_before s fs q.clock) ≡ data_of s (frames_before s fs r.clock) ++ c.next_block.new.bytes.items) now.files did.bytes in
    let joined = bytes ∙ ap (λ xs. data_of s (frames_before s files r.clock) ++ xs) (sym c.as_slice.ensures.value) in
    let p = err_from_is_err_and c.from_residual.result c.from_residual.ensures.1 in
    rw (p.1, p.2) (stopped_piece c.in_err-append.field-0.0 name (data_of s (frames_before s files r.clock)) c.as_slice.result.now (data_of s (frames_before s files q.clock))
    (data_of s (frames_from (clips_of s files) s 0 s.length)) _ _ _ _ joined (data_rest s files q.clock did.within) (now.grown name is) (c.in_err-append.ensures.after name (now.writing ∙ is)))
