use Rattle.std.proofs.Common.{◌<◌, ◌∙◌, length, sym}
use Rattle.clip_decode.specs.Frames.{frames}
use Rattle.scene_clips.proofs.FilePages.{frames_counted}
use Rattle.scene_clips.proofs.Rates.{fit_length}
use Rattle.scene_clips.proofs.paged_clip.PagedClip.sample.Goals as goal

pub point-requires : goal.point-requires
point-requires c =
    let clip = c.self.inside.file in
    let fit = c.self.inside.converter.conversion in
    let kept = c.self.invariant in
    rw (← fit_length clip.bytes clip.wave fit kept.surveyed kept.input_rate kept.frames) (rw (← c.self.view_is) at c.requires.frame)

pub sample_at-requires-clause-inside : goal.sample_at-requires-clause-inside
sample_at-requires-clause-inside c =
    let clip = c.self.inside.file in
    let kept = c.self.invariant in
    let inside : c.point.result.first < length (frames clip.bytes) = rw (kept.frames ∙ sym (frames_counted clip.bytes clip.wave kept.surveyed)) at c.point.ensures.inside in
    rw (← c.self.view_is) inside
