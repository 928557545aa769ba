-- The frame stands in the page.
use Rattle.std.proofs.Common.{◌≡◌, ◌∙◌, ◌/◌}
use Rattle.clip_decode.specs.Frames.{interleaved}
use Rattle.clip_decode.specs.Pages.{page_frames}
use Rattle.scene_clips.proofs.FilePages.{frame_fits}
use Rattle.fx_render.proofs.Frames.{frame_of_page}
use Rattle.fx_render.proofs.stereo_reader.StereoReader.held_frame.Goals as goal

pub stereo_at-requires-clause-inside : goal.stereo_at-requires-clause-inside
stereo_at-requires-clause-inside c =
    let bytes = c.args.self.now.clip.bytes in
    let w = c.args.self.now.clip.wave in
    let samples : c.samples.result.now ≡ interleaved (page_frames bytes (c.args.self.now.next / 8192)) = c.samples.ensures.value ∙ c.requires.held.held c.requires.below in
    rw (samples, c.from-channels.ensures, c.from.ensures, c.wave.ensures.value) (frame_fits bytes w c.args.self.now.next c.wave.ensures.surveyed c.requires.below)

pub returns-clause-frame : goal.returns-clause-frame
returns-clause-frame c =
    let bytes = c.args.self.now.clip.bytes in
    let w = c.args.self.now.clip.wave in
    let samples : c.samples.result.now ≡ interleaved (page_frames bytes (c.args.self.now.next / 8192)) = c.samples.ensures.value ∙ c.requires.held.held c.requires.below in
    rw (c.stereo_at.ensures.frame, samples, c.from-channels.ensures, c.from.ensures, c.wave.ensures.value) (frame_of_page bytes w c.args.self.now.next c.wave.ensures.surveyed c.requires.below)
