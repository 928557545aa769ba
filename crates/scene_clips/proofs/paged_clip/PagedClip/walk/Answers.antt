use Rattle.std.proofs.Common.{◌∙◌, sym, refl}
use Rattle.scene_clips.proofs.FilePages.{frames_counted}
use Rattle.scene_clips.proofs.Rates.{fit_length, rate_of}
use Rattle.scene_clips.proofs.paged_clip.PagedClip.walk.Goals as goal

pub walk-requires : goal.walk-requires
walk-requires c =
    let clip = c.self.inside.file in
    let fit = c.self.inside.converter.conversion in
    let kept = c.self.invariant in
    rw (← fit_length clip.bytes clip.wave fit kept.surveyed kept.input_rate kept.frames) (rw (← c.self.view_is) at c.requires)

pub returns : goal.returns
returns c =
    let clip = c.self.inside.file in
    let fit = c.self.inside.converter.conversion in
    let kept = c.self.invariant in
    rw (← c.self.view_is, c.walk.ensures) (record {
      input_is = kept.input_rate ∙ sym (rate_of clip.bytes clip.wave kept.surveyed);
      output_is = refl;
      frames_are = kept.frames ∙ sym (frames_counted clip.bytes clip.wave kept.surveyed);
      length_is = sym (fit_length clip.bytes clip.wave fit kept.surveyed kept.input_rate kept.frames);
      place_is = refl;
      conversion = kept.conversion;
    })
