-- Past the end of the file stands a frame of 0.
use Rattle.std.proofs.Common.{◌≡◌, ◌≤◌, ◌∙◌, ap, pos, replicate, sym}
use Rattle.cut_render.specs.Cut.{channels_for, cut_frame}
use Rattle.cut_render.proofs.Frames.{silent_frame}
use Rattle.cut_render.proofs.frame_reader.FrameReader.append_frame.Goals as goal

pub returns-else-number-wave-clause-samples : goal.returns-else-number-wave-clause-samples
returns-else-number-wave-clause-samples c =
    let reader = c.args.self.now in
    let past : reader.clip.wave.frames ≤ c.args.number = rw (c.wave.ensures.value) at c.if-number-wave.false in
    let silent : replicate c.channels_of.result (pos 0) ≡ cut_frame reader.clip.bytes c.args.number =
    ap (λ k. replicate k (pos 0)) (c.channels_of.ensures.channels ∙ ap (λ w. channels_for w.channels) c.wave-else-number-wave.ensures.value)
    ∙ sym (silent_frame reader.clip.bytes reader.clip.wave c.args.number c.wave.ensures.surveyed past) in
    rw silent at c.append_silence.ensures.samples
