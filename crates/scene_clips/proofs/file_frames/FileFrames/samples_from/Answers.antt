-- The samples from a frame on, as its page has them.
use Rattle.std.proofs.Common.{◌≡◌, ◌∙◌, ◌<◌, ◌/◌, ap, arith}
use Rattle.clip_decode.specs.Frames.{interleaved}
use Rattle.clip_decode.specs.Pages.{page_frames}
use Rattle.scene_clips.proofs.FilePages.{rest_fits, rest_holds, sample_in_page}
use Rattle.scene_clips.proofs.file_frames.FileFrames.samples_from.Goals as goal

pub samples_behind-requires : goal.samples_behind-requires
samples_behind-requires c =
    let inside = c.self.inside in
    let bytes = inside.content.bytes in
    let w = inside.wave in
    let below : c.args.n < w.frames = rw (← c.self.view_is) at c.requires.below in
    let samples : c.samples.result.now ≡ interleaved (page_frames bytes (c.args.n / 8192)) = c.samples.ensures.value ∙ ap (λ p. p.samples) (rw (← c.self.view_is) at c.page-page.ensures) in
    rw (samples, c.from.ensures) (rest_fits bytes w c.args.n c.self.invariant.surveyed below)

pub returns-clause-some : goal.returns-clause-some
returns-clause-some c =
    let inside = c.self.inside in
    let bytes = inside.content.bytes in
    let w = inside.wave in
    let below : c.args.n < w.frames = rw (← c.self.view_is) at c.requires.below in
    let samples : c.samples.result.now ≡ interleaved (page_frames bytes (c.args.n / 8192)) = c.samples.ensures.value ∙ ap (λ p. p.samples) (rw (← c.self.view_is) at c.page-page.ensures) in
    rw (c.samples_behind.ensures.value, samples, c.from.ensures, ← c.self.view_is) (rest_holds bytes w c.args.n c.self.invariant.surveyed below)

pub returns-clause-values : goal.returns-clause-values
returns-clause-values c =
    let inside = c.self.inside in
    let bytes = inside.content.bytes in
    let w = inside.wave in
    let below : c.args.n < w.frames = rw (← c.self.view_is) at c.requires.below in
    let samples : c.samples.result.now ≡ interleaved (page_frames bytes (c.args.n / 8192)) = c.samples.ensures.value ∙ ap (λ p. p.samples) (rw (← c.self.view_is) at c.page-page.ensures) in
    rw (c.samples_behind.ensures.value, samples, c.from.ensures, ← c.self.view_is)
    (λ j inside_page. sample_in_page bytes w c.args.n c.self.invariant.surveyed below j (omega (arith, c.self.invariant.lawful.lies.channels_least)) inside_page)
