-- The frame stands in its page. Past the end of the file stands a frame of 0.
use Rattle.std.proofs.Common.{◌≡◌, ◌∙◌, ◌<◌, ◌≤◌, ◌/◌, ap, sym, pos, take, replicate}
use Rattle.std.proofs.lemmas.List.{take-replicate}
use Rattle.clip_decode.specs.Frames.{interleaved}
use Rattle.clip_decode.specs.Pages.{page_frames}
use Rattle.scene_clips.proofs.FilePages.{frame_fits, frame_in_page, silence_past_end}
use Rattle.scene_clips.proofs.file_frames.FileFrames.frame.Goals as goal

pub returns-then-n-wave-clause-value : goal.returns-then-n-wave-clause-value
returns-then-n-wave-clause-value c =
    let bytes = c.args.self.now.bytes in
    let w = c.args.self.now.wave in
    let past : w.frames ≤ c.args.n = rw c.wave-wave.ensures.value at c.if-n-wave.true in
    let count : c.from.result ≡ w.channels = c.from.ensures ∙ ap (λ v. v.channels) c.wave-wave.ensures.value in
    c.frame_at.ensures.value ∙ ap (λ k. take k (replicate 8 (pos 0))) count
    ∙ take-replicate w.channels 8 (pos 0) c.wave-wave.ensures.lawful.lies.channels_most
    ∙ sym (silence_past_end bytes w c.args.n c.wave-wave.ensures.surveyed past)

pub page-requires : goal.page-requires
page-requires c =
    let below : c.args.n < c.args.self.now.wave.frames = rw c.wave-wave.ensures.value at c.if-n-wave.false in
    c.requires below

pub frame_at-requires-2 : goal.frame_at-requires-2
frame_at-requires-2 c =
    let bytes = c.args.self.now.bytes in
    let w = c.args.self.now.wave in
    let below : c.args.n < w.frames = rw c.wave-wave.ensures.value at c.if-n-wave.false in
    let samples : c.samples.result.now ≡ interleaved (page_frames bytes (c.args.n / 8192)) = c.samples.ensures.value ∙ ap (λ p. p.samples) c.page.ensures in
    rw (samples, c.from-count.ensures, c.wave-wave.ensures.value) (frame_fits bytes w c.args.n c.wave-wave.ensures.surveyed below)

pub returns-clause-value : goal.returns-clause-value
returns-clause-value c =
    let bytes = c.args.self.now.bytes in
    let w = c.args.self.now.wave in
    let below : c.args.n < w.frames = rw c.wave-wave.ensures.value at c.if-n-wave.false in
    let samples : c.samples.result.now ≡ interleaved (page_frames bytes (c.args.n / 8192)) = c.samples.ensures.value ∙ ap (λ p. p.samples) c.page.ensures in
    rw (c.frame_at-2.ensures.value, samples, c.from-count.ensures, c.wave-wave.ensures.value) (frame_in_page bytes w c.args.n c.wave-wave.ensures.surveyed below)
