-- The frame stands in the page.
use Rattle.std.proofs.Common.{◌≡◌, ◌∙◌, ◌/◌}
use Rattle.clip_decode.specs.Frames.{interleaved}
use Rattle.clip_decode.specs.Pages.{page_frames}
use Rattle.scene_clips.proofs.FilePages.{frame_fits}
use Rattle.cut_render.proofs.Frames.{frame_of_page}
use Rattle.cut_render.proofs.frame_reader.FrameReader.append_held.Goals as goal

pub append_converted-requires-clause-inside : goal.append_converted-requires-clause-inside
append_converted-requires-clause-inside c =
    let bytes = c.args.self.now.clip.bytes in
    let w = c.args.self.now.clip.wave in
    let samples : c.samples.result.now ≡ interleaved (page_frames bytes (c.args.number / 8192)) = c.samples.ensures.value ∙ c.requires.reading.held (c.args.number / 8192) c.requires.held in
    rw (samples, c.from-channels.ensures, c.wave.ensures.value) (frame_fits bytes w c.args.number c.wave.ensures.surveyed c.requires.below)

pub returns-clause-samples : goal.returns-clause-samples
returns-clause-samples c =
    let bytes = c.args.self.now.clip.bytes in
    let w = c.args.self.now.clip.wave in
    let samples : c.samples.result.now ≡ interleaved (page_frames bytes (c.args.number / 8192)) = c.samples.ensures.value ∙ c.requires.reading.held (c.args.number / 8192) c.requires.held in
    rw (samples, c.from-channels.ensures, c.wave.ensures.value, frame_of_page bytes w c.args.number c.wave.ensures.surveyed c.requires.below) at c.append_converted.ensures.samples
