-- The files of the shelf's tapes are those of the clips.
use Rattle.std.proofs.Common.{◌≡◌, ap, sym, subst, map, List, ℕ}
use Rattle.std.specs.Prelude.{IfOk}
use Rattle.clip_decode.specs.ClipData.{ClipData}
use Rattle.engine.specs.RunAnswers.{answer_of}
use Rattle.engine.proofs.TapeClips.{whole_files}
use Rattle.mix_model.specs.Mix.{mix}
use Rattle.mix_model.specs.Output.{wav}
use Rattle.mix_model.specs.Rendering.{summary_of}
use Rattle.resource_mgr.specs.Tapes.{files_of}
use Rattle.snd_io.specs.Answers.{put_of}
use Rattle.snd_io.specs.Runs.{SetsFile}
use Rattle.snd_tools.proofs.rendering.write_render.Goals as goal

pub returns-clause-after : goal.returns-clause-after
returns-clause-after g c =
    let s = c.args.scene.now in
    let same : files_of c.in_ok-shelf.shelf.tapes.items ≡ map (λ (x : ClipData). x.bytes) c.args.clips.items = whole_files c.args.clips.items c.in_ok-shelf.shelf.tapes.items c.in_ok-shelf.ensures.clips_are in
    subst (λ answer. SetsFile answer c.args.out.now (wav s (mix s (map (λ (x : ClipData). x.bytes) c.args.clips.items))) (g.D.Depot.files c.args.depot.now) (g.D.Depot.files c.render.new.depot)) (sym c.put_result.ensures.answer)
    (subst (λ (files : List (List ℕ)). SetsFile (answer_of c.render.result) c.args.out.now (wav s (mix s files)) (g.D.Depot.files c.args.depot.now) (g.D.Depot.files c.render.new.depot)) same c.render.ensures.after)

pub returns-clause-summary : goal.returns-clause-summary
returns-clause-summary g c =
    let s = c.args.scene.now in
    let same : files_of c.in_ok-shelf.shelf.tapes.items ≡ map (λ (x : ClipData). x.bytes) c.args.clips.items = whole_files c.args.clips.items c.in_ok-shelf.shelf.tapes.items c.in_ok-shelf.ensures.clips_are in
    c.put_result.ensures.summary (summary_of s (mix s (map (λ (x : ClipData). x.bytes) c.args.clips.items)))
    (subst (λ (files : List (List ℕ)). IfOk c.render.result (λ summary. summary ≡ summary_of s (mix s files))) same c.render.ensures.summary)
