-- Both frames stand in the page of the first, or the next one begins another page or comes past the end.
use Rattle.std.proofs.Common.{◌≡◌, ◌∙◌, ◌≤◌, ◌<◌, ◌+◌, ◌*◌, ◌/◌, ◌%◌, ap, arith, length, drop, take}
use Rattle.clip_decode.specs.Frames.{interleaved}
use Rattle.clip_decode.specs.Pages.{page_frames}
use Rattle.scene_clips.proofs.FilePages.{frame_fits, frame_in_page, next_in_page}
use Rattle.scene_clips.proofs.file_frames.FileFrames.frame_and_next.Goals as goal

pub frame_at-first-requires : goal.frame_at-first-requires
frame_at-first-requires c =
    let bytes = c.args.self.now.bytes in
    let w = c.args.self.now.wave in
    let samples : c.samples-samples.result.now ≡ interleaved (page_frames bytes (c.args.n / 8192)) = c.samples-samples.ensures.value ∙ ap (λ p. p.samples) c.page.ensures in
    rw (samples, c.from-count.ensures, c.wave.ensures.value) (frame_fits bytes w c.args.n c.wave.ensures.surveyed c.requires.below)

pub returns-then-place-count-clause-first : goal.returns-then-place-count-clause-first
returns-then-place-count-clause-first c =
    let bytes = c.args.self.now.bytes in
    let w = c.args.self.now.wave in
    let samples : c.samples-samples.result.now ≡ interleaved (page_frames bytes (c.args.n / 8192)) = c.samples-samples.ensures.value ∙ ap (λ p. p.samples) c.page.ensures in
    rw (c.frame_at-first.ensures.value, samples, c.from-count.ensures, c.wave.ensures.value) (frame_in_page bytes w c.args.n c.wave.ensures.surveyed c.requires.below)

pub returns-clause-first : goal.returns-clause-first
returns-clause-first c =
    let bytes = c.args.self.now.bytes in
    let w = c.args.self.now.wave in
    let samples : c.samples-samples.result.now ≡ interleaved (page_frames bytes (c.args.n / 8192)) = c.samples-samples.ensures.value ∙ ap (λ p. p.samples) c.page.ensures in
    rw (c.frame_at-first.ensures.value, samples, c.from-count.ensures, c.wave.ensures.value) (frame_in_page bytes w c.args.n c.wave.ensures.surveyed c.requires.below)

pub returns-clause-next : goal.returns-clause-next
returns-clause-next c =
    let bytes = c.args.self.now.bytes in
    let w = c.args.self.now.wave in
    let count : c.from-count.result ≡ w.channels = c.from-count.ensures ∙ ap (λ v. v.channels) c.wave.ensures.value in
    let samples : c.samples-samples.result.now ≡ interleaved (page_frames bytes (c.args.n / 8192)) = c.samples-samples.ensures.value ∙ ap (λ p. p.samples) c.page.ensures in
    let room : c.args.n % 8192 * w.channels + 2 * w.channels ≤ length (interleaved (page_frames bytes (c.args.n / 8192))) = rw (samples, count) at c.if-place-count.false in
    rw (c.frame_at.ensures.value, samples, count)
    (next_in_page bytes w c.args.n c.wave.ensures.surveyed c.requires.below room (omega (arith, c.wave.ensures.lawful.lies.channels_least)))
