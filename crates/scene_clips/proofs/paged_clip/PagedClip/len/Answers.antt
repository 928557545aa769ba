use Rattle.std.proofs.Common.{◌∙◌, sym}
use Rattle.scene_clips.proofs.Rates.{fit_length}
use Rattle.scene_clips.proofs.paged_clip.PagedClip.len.Goals as goal

pub returns-clause-value : goal.returns-clause-value
returns-clause-value c =
    let clip = c.self.inside.file in
    let fit = c.self.inside.converter.conversion in
    let kept = c.self.invariant in
    rw (← c.self.view_is)
    (c.len.ensures.value ∙ sym (fit_length clip.bytes clip.wave fit kept.surveyed kept.input_rate kept.frames))
