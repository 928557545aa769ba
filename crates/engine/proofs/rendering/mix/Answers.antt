use Rattle.std.proofs.Common.{ap, sym, ◌∙◌, ◌≡◌, subst, map, refl, List, ℕ}
use Rattle.std.specs.Prelude.{IfOk}
use Rattle.snd_io.specs.Runs.{SetsFile}
use Rattle.clip_decode.specs.ClipData.{ClipData}
use Rattle.mix_model.specs.Mix.{clips_of, frames_from}
use Rattle.mix_model.specs.Output.{wav}
use Rattle.mix_model.specs.Rendering.{summary_of}
use Rattle.mix_model.proofs.Written.{mix_is}
use Rattle.resource_mgr.specs.Tapes.{AreShown, files_of}
use Rattle.engine.specs.RendererData.{RendererData}
use Rattle.engine.specs.RunAnswers.{answer_of}
use Rattle.engine.proofs.TapeClips.{whole_files}
use Rattle.engine.proofs.rendering.mix.Goals as goal

pub write_out-requires-clause-shows : goal.write_out-requires-clause-shows
write_out-requires-clause-shows g c = subst AreShown (sym (ap (λ (r : RendererData). r.tapes) c.in_ok-renderer.ensures)) c.in_ok-tapes.ensures.whole

pub returns-clause-after : goal.returns-clause-after
returns-clause-after g c =
    let s = c.args.scene.now in
    let files = map (λ (x : ClipData). x.bytes) c.args.clips.items in
    let same : files_of c.in_ok-renderer.renderer.tapes ≡ files = ap (λ (r : RendererData). files_of r.tapes) c.in_ok-renderer.ensures ∙ whole_files c.args.clips.items c.in_ok-tapes.tapes.items c.in_ok-tapes.ensures.clips_are in
    subst (λ frames. SetsFile (answer_of c.write_out.result) c.args.out.now (wav s frames) (g.D.Depot.files c.args.depot.now) (g.D.Depot.files c.write_out.new.depot))
    (ap (λ (fs : List (List ℕ)). frames_from (clips_of s fs) s 0 s.length) same ∙ mix_is s files (clips_of s files) refl) c.write_out.ensures.after

pub returns-clause-summary : goal.returns-clause-summary
returns-clause-summary g c =
    let s = c.args.scene.now in
    let files = map (λ (x : ClipData). x.bytes) c.args.clips.items in
    let same : files_of c.in_ok-renderer.renderer.tapes ≡ files = ap (λ (r : RendererData). files_of r.tapes) c.in_ok-renderer.ensures ∙ whole_files c.args.clips.items c.in_ok-tapes.tapes.items c.in_ok-tapes.ensures.clips_are in
    subst (λ frames. IfOk c.write_out.result (λ summary. summary ≡ summary_of s frames))
    (ap (λ (fs : List (List ℕ)). frames_from (clips_of s fs) s 0 s.length) same ∙ mix_is s files (clips_of s files) refl) c.write_out.ensures.summary
