use Rattle.std.proofs.Common.{ap, ◌∙◌, subst, map}
use Rattle.std.proofs.lemmas.Result.{err_from_is_err_and}
use Rattle.snd_io.specs.declared.answers.Put.TheVariants.{Done}
use Rattle.snd_io.specs.Answers.{Writes}
use Rattle.clip_decode.specs.ClipData.{ClipData}
use Rattle.mix_model.specs.Output.{wav}
use Rattle.mix_model.specs.Rendering.{summary_of, fault_answer}
use Rattle.mix_model.proofs.Written.{mix_is}
use Rattle.mix_model.proofs.rendering.plain_mix.Goals as goal

pub returns-in_err-write_wav-clause-written : goal.returns-in_err-write_wav-clause-written
returns-in_err-write_wav-clause-written g c =
    let s = c.args.scene.now in
    let p = err_from_is_err_and c.from_residual-in_err-write_wav.result c.from_residual-in_err-write_wav.ensures.1 in
    rw (p.1, p.2) (subst (λ frames. Writes (fault_answer c.in_err-write_wav.field-0.0) (wav s frames) (g.S.Sink.written c.args.sink.now) (g.S.Sink.written c.write_wav.new.sink)) (mix_is s (map (λ (x : ClipData). x.bytes) c.args.clips.now) _ c.in_ok-blocks.ensures.clips) c.in_err-write_wav.ensures.after)

pub returns-clause-written : goal.returns-clause-written
returns-clause-written g c =
    let s = c.args.scene.now in
    subst (λ frames. Writes Done (wav s frames) (g.S.Sink.written c.args.sink.now) (g.S.Sink.written c.write_wav.new.sink)) (mix_is s (map (λ (x : ClipData). x.bytes) c.args.clips.now) _ c.in_ok-blocks.ensures.clips) c.in_ok-write_wav.ensures.after

pub returns-clause-summary : goal.returns-clause-summary
returns-clause-summary g c =
    let s = c.args.scene.now in
    c.in_ok-write_wav.ensures.summary ∙ ap (summary_of s) (mix_is s (map (λ (x : ClipData). x.bytes) c.args.clips.now) _ c.in_ok-blocks.ensures.clips)
