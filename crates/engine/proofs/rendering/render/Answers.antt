-- The tapes of the renderer are those of the shelf.
use Rattle.std.proofs.Common.{◌≡◌, ◌∙◌, ap, refl, subst, List, ℕ}
use Rattle.std.specs.Prelude.{IfOk}
use Rattle.snd_io.specs.Runs.{SetsFile}
use Rattle.mix_model.specs.Mix.{clips_of, frames_from}
use Rattle.mix_model.specs.Output.{wav}
use Rattle.mix_model.specs.Rendering.{summary_of}
use Rattle.mix_model.proofs.Written.{mix_is}
use Rattle.resource_mgr.specs.Tapes.{files_of}
use Rattle.engine.specs.RendererData.{RendererData}
use Rattle.engine.specs.RunAnswers.{answer_of}
use Rattle.engine.proofs.rendering.render.Goals as goal

pub returns-clause-after : goal.returns-clause-after
returns-clause-after g c =
    let s = c.args.scene.now in
    let files = files_of c.args.shelf.tapes.items in
    let same : files_of c.in_ok-renderer.renderer.tapes ≡ files = ap (λ (r : RendererData). files_of r.tapes) c.in_ok-renderer.ensures in
    subst (λ frames. SetsFile (answer_of c.render_beside.result) c.args.out.now (wav s frames) (g.D.Depot.files c.args.depot.now) (g.D.Depot.files c.render_beside.new.depot))
    (ap (λ (fs : List (List ℕ)). frames_from (clips_of s fs) s 0 s.length) same ∙ mix_is s files (clips_of s files) refl) c.render_beside.ensures.after

pub returns-clause-summary : goal.returns-clause-summary
returns-clause-summary g c =
    let s = c.args.scene.now in
    let files = files_of c.args.shelf.tapes.items in
    let same : files_of c.in_ok-renderer.renderer.tapes ≡ files = ap (λ (r : RendererData). files_of r.tapes) c.in_ok-renderer.ensures in
    subst (λ frames. IfOk c.render_beside.result (λ summary. summary ≡ summary_of s frames))
    (ap (λ (fs : List (List ℕ)). frames_from (clips_of s fs) s 0 s.length) same ∙ mix_is s files (clips_of s files) refl) c.render_beside.ensures.summary
