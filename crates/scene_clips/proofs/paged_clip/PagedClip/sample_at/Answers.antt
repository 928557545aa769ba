-- Two frames of the file, brought to a frame at the scene's rate.
use Rattle.std.proofs.Common.{◌∙◌, ◌+◌, ◌<◌, length, ap, sym, arith, rules, FitsSigned}
use Rattle.std.specs.Int.{w32}
use Rattle.std.proofs.lemmas.Int.{to_z-of_z}
use Rattle.rate_fit.specs.Points.{point_at}
use Rattle.clip_decode.specs.Frames.{frames}
use Rattle.scene_clips.proofs.FilePages.{frames_counted}
use Rattle.scene_clips.proofs.PagesTo.{frame_there}
use Rattle.scene_clips.proofs.Rates.{rate_of, converted_is}
use Rattle.scene_clips.proofs.paged_clip.PagedClip.sample_at.Goals as goal

pub frame_and_next-requires-clause-below : goal.frame_and_next-requires-clause-below
frame_and_next-requires-clause-below c =
    let clip = c.self.inside.file in
    let inside : c.args.point.first < length (frames clip.bytes) = rw (← c.self.view_is) at c.requires.inside in
    rw (frames_counted clip.bytes clip.wave c.self.invariant.surveyed) at inside

pub frame_and_next-requires-clause-first : goal.frame_and_next-requires-clause-first
frame_and_next-requires-clause-first c =
    let clip = c.self.inside.file in
    let first = c.args.point.first in
    let inside : first < length (frames clip.bytes) = rw (← c.self.view_is) at c.requires.inside in
    frame_there clip.bytes clip.wave c.args.pages.now first first c.self.invariant.surveyed (omega arith) (rw (← c.self.view_is) at c.requires.there)
    (rw (frames_counted clip.bytes clip.wave c.self.invariant.surveyed) at inside)

pub frame_and_next-requires-clause-next : goal.frame_and_next-requires-clause-next
frame_and_next-requires-clause-next c =
    let clip = c.self.inside.file in
    let first = c.args.point.first in
    frame_there clip.bytes clip.wave c.args.pages.now first (first + 1) c.self.invariant.surveyed (omega arith) (rw (← c.self.view_is) at c.requires.there)

pub returns-clause-value : goal.returns-clause-value
returns-clause-value c =
    let clip = c.self.inside.file in
    let to = c.self.inside.converter in
    let fits : FitsSigned w32 c.sample.result = search rules in
    rw (to_z-of_z w32 c.sample.result fits, ← c.self.view_is) (λ n point_is.
    let rate = rate_of clip.bytes clip.wave c.self.invariant.surveyed ∙ sym c.self.invariant.input_rate in
    c.sample.ensures.value
    ∙ converted_is clip.bytes clip.wave to n c.args.channel c.args.point c.frame_and_next.result.0.now c.frame_and_next.result.1.now
    c.self.invariant.surveyed c.self.invariant.input_rate (point_is ∙ ap (λ r. point_at r to.conversion.output_rate n) rate)
    c.frame_and_next.ensures.first c.frame_and_next.ensures.next)
