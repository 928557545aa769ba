use Rattle.std.proofs.Common.{sym, subst, ◌++◌, List, ℕ}
use Rattle.std.proofs.lemmas.Result.{err_from_is_err_and}
use Rattle.snd_io.specs.declared.answers.Put.{Put}
use Rattle.snd_io.specs.declared.answers.Put.TheVariants.{Done}
use Rattle.snd_io.specs.Answers.{Writes}
use Rattle.snd_io.proofs.RunLemmas.{writes-then}
use Rattle.wave_write.specs.Header.{header, data_bytes}
use Rattle.mix_model.specs.Mix.{frames_from}
use Rattle.mix_model.specs.Output.{padding}
use Rattle.mix_model.specs.Rendering.{data_of, fault_answer, answer_of}
use Rattle.mix_model.proofs.Written.{wav_is, stopped}
use Rattle.mix_model.proofs.rendering.write_wav.Goals as goal

pub returns-in_err-done-clause-after : goal.returns-in_err-done-clause-after
returns-in_err-done-clause-after g c =
    let s = c.args.scene.now in
    let clips = c.args.blocks.now.player.clips.items in
    let start = header s.channels s.rate s.width s.length in
    let frames = data_of s (frames_from clips s 0 s.length) in
    let end = padding (data_bytes s.channels s.width s.length) in
    let before = g.S.Sink.written c.args.sink.now in
    let after = g.S.Sink.written c.write.new.self in
    let fault = c.in_err-done.field-0.0 in
    let p = err_from_is_err_and c.from_residual.result c.from_residual.ensures.1 in
    let wrote : Writes c.write.result start before after = subst (λ (bytes : List ℕ). Writes c.write.result bytes before after) c.scene_header.ensures c.write.ensures.after in
    let first : Writes (fault_answer fault) start before after = subst (λ (answer : Put). Writes answer start before after) (sym c.in_err-done.ensures) wrote in
    rw (p.1, p.2) (subst (λ (bytes : List ℕ). Writes (fault_answer fault) bytes before after) (sym (wav_is s clips)) (stopped fault (start ++ frames) end before after (stopped fault start frames before after first)))

pub returns-in_err-write_frames-clause-after : goal.returns-in_err-write_frames-clause-after
returns-in_err-write_frames-clause-after g c =
    let s = c.args.scene.now in
    let clips = c.args.blocks.now.player.clips.items in
    let start = header s.channels s.rate s.width s.length in
    let frames = data_of s (frames_from clips s 0 s.length) in
    let end = padding (data_bytes s.channels s.width s.length) in
    let before = g.S.Sink.written c.args.sink.now in
    let middle = g.S.Sink.written c.write.new.self in
    let after = g.S.Sink.written c.write_frames.new.sink in
    let fault = c.in_err-write_frames.field-0.0 in
    let p = err_from_is_err_and c.from_residual-in_err-write_frames.result c.from_residual-in_err-write_frames.ensures.1 in
    let wrote : Writes c.write.result start before middle = subst (λ (bytes : List ℕ). Writes c.write.result bytes before middle) c.scene_header.ensures c.write.ensures.after in
    let first : Writes Done start before middle = subst (λ (answer : Put). Writes answer start before middle) (sym c.in_ok-done.ensures) wrote in
    rw (p.1, p.2) (subst (λ (bytes : List ℕ). Writes (fault_answer fault) bytes before after) (sym (wav_is s clips)) (stopped fault (start ++ frames) end before after (writes-then (fault_answer fault) start frames before middle after first c.in_err-write_frames.ensures.after)))

pub returns-clause-after : goal.returns-clause-after
returns-clause-after g c =
    let s = c.args.scene.now in
    let clips = c.args.blocks.now.player.clips.items in
    let start = header s.channels s.rate s.width s.length in
    let frames = data_of s (frames_from clips s 0 s.length) in
    let end = padding (data_bytes s.channels s.width s.length) in
    let before = g.S.Sink.written c.args.sink.now in
    let middle = g.S.Sink.written c.write.new.self in
    let later = g.S.Sink.written c.write_frames.new.sink in
    let after = g.S.Sink.written c.write_padding.new.sink in
    let answer = answer_of c.done-2.result in
    let wrote : Writes c.write.result start before middle = subst (λ (bytes : List ℕ). Writes c.write.result bytes before middle) c.scene_header.ensures c.write.ensures.after in
    let first : Writes Done start before middle = subst (λ (a : Put). Writes a start before middle) (sym c.in_ok-done.ensures) wrote in
    let second = writes-then Done start frames before middle later first c.in_ok-write_frames.ensures.after in
    let last : Writes answer end later after = subst (λ (a : Put). Writes a end later after) (sym c.done-2.ensures) c.write_padding.ensures.after in
    subst (λ (bytes : List ℕ). Writes answer bytes before after) (sym (wav_is s clips)) (writes-then answer (start ++ frames) end before later after second last)
