use Rattle.std.proofs.Common.{refl, sym, subst, ap, ◌∙◌, ◌≡◌, ◌++◌, []}
use Rattle.std.proofs.lemmas.Result.{err_from_is_err_and}
use Rattle.std.specs.Option.{option_map}
use Rattle.snd_io.specs.Answers.{Writes}
use Rattle.clip_decode.specs.Frames.{interleaved}
use Rattle.mix_model.specs.Mix.{frames_from}
use Rattle.mix_model.specs.Rendering.{data_of, frames_before}
use Rattle.mix_model.proofs.Written.{data_rest, stopped_block, nothing}
use Rattle.mix_model.proofs.rendering.write_frames.Goals as goal

pub loop-blocks-init : goal.loop-blocks-init
unfolding interleaved
loop-blocks-init g c =
    let s = c.args.scene.now in
    let empty : data_of s (frames_before s c.args.blocks.now) ≡ [] = ap (λ t. data_of s (frames_from c.args.blocks.now.player.clips.items s 0 t)) c.requires.start in
    record {
      rendered = c.requires.rendered;
      clips = refl;
      text = nothing (g.S.Sink.written c.args.sink.now) ∙ ap (λ bytes. option_map (λ t. t ++ bytes) (g.S.Sink.written c.args.sink.now)) (sym empty);
      faults = refl;
    }

pub returns-in_err-next-clause-after : goal.returns-in_err-next-clause-after
returns-in_err-next-clause-after g c =
    let s = c.args.scene.now in
    let now = c.loop-blocks.invariant in
    let p = err_from_is_err_and c.from_residual.result c.from_residual.ensures.1 in
    rw (p.1, p.2) (data_of s (frames_before s c.loop-blocks.blocks), data_rest s c.args.blocks.now.player.clips.items c.loop-blocks.blocks now.clips now.rendered.before.time_most, now.text)

pub returns-in_err-done-clause-after : goal.returns-in_err-done-clause-after
returns-in_err-done-clause-after g c =
    let s = c.args.scene.now in
    let now = c.loop-blocks.invariant in
    let next = c.in_ok-next.ensures in
    let fault = c.in_err-done.field-0.0 in
    let p = err_from_is_err_and c.from_residual-in_err-done.result c.from_residual-in_err-done.ensures.1 in
    let joined = next.bytes ∙ ap (λ bytes. data_of s (frames_before s c.loop-blocks.blocks) ++ bytes) (sym c.as_slice.ensures.value) in
    let wrote = subst (λ answer. Writes answer c.as_slice.result.now (g.S.Sink.written c.loop-blocks.sink) (g.S.Sink.written c.write.new.self)) (sym c.in_err-done.ensures) c.write.ensures.after in
    rw (p.1, p.2) (stopped_block fault (data_of s (frames_before s c.loop-blocks.blocks)) c.as_slice.result.now (data_of s (frames_before s c.next.new.self)) _ _ _ _ joined
    (data_rest s c.args.blocks.now.player.clips.items c.next.new.self (next.next.1 ∙ now.clips) next.rendered.before.time_most) now.text wrote)
