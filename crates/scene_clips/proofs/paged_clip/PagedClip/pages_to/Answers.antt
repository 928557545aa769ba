use Rattle.std.proofs.Common.{◌≡◌, ◌∙◌, ◌+◌, ap, sym, min, length, arith}
use Rattle.clip_decode.specs.Frames.{frames}
use Rattle.clip_decode.specs.Pages.{page_count}
use Rattle.scene_clips.proofs.FilePages.{frames_counted}
use Rattle.scene_clips.proofs.PagesTo.{few_through, made_of, pages_ordered, through_is}
use Rattle.scene_clips.proofs.Rates.{fit_length}
use Rattle.scene_clips.proofs.paged_clip.PagedClip.pages_to.Goals as goal

pub point-first-requires : goal.point-first-requires
point-first-requires c =
    let clip = c.self.inside.file in
    let fit = c.self.inside.converter.conversion in
    let kept = c.self.invariant in
    rw (← fit_length clip.bytes clip.wave fit kept.surveyed kept.input_rate kept.frames) (rw (← c.self.view_is) at c.requires)

pub returns-clause-value : goal.returns-clause-value
returns-clause-value c =
    let clip = c.self.inside.file in
    let fit = c.self.inside.converter.conversion in
    let kept = c.self.invariant in
    let first = c.point-first.result.first in
    let frames_are : c.wave.result.now.frames ≡ length (frames clip.bytes) = ap (λ v. v.frames) c.wave.ensures.value ∙ sym (frames_counted clip.bytes clip.wave kept.surveyed) in
    rw (← c.self.view_is)
    (c.div_ceil.ensures ∙ ap page_count (c.min-through.ensures ∙ ap (min (first + 2)) frames_are)
    ∙ through_is clip.bytes clip.wave fit.input_rate fit.output_rate c.args.n c.point-first.result kept.surveyed kept.input_rate c.point-first.ensures.point)

pub returns-clause-before : goal.returns-clause-before
returns-clause-before c =
    rw (returns-clause-value c, ← c.self.view_is)
    (λ m less. pages_ordered c.self.inside.file.bytes c.self.inside.converter.conversion.output_rate m c.args.n c.self.invariant.conversion.some_out less)

pub returns-clause-most : goal.returns-clause-most
returns-clause-most c =
    rw (returns-clause-value c)
    (few_through c.args.self.now.bytes _)

pub returns-clause-last : goal.returns-clause-last
returns-clause-last c =
    let clip = c.self.inside.file in
    let fit = c.self.inside.converter.conversion in
    let kept = c.self.invariant in
    let inside = c.point-first.ensures.inside in
    let frames_are = kept.frames in
    rw (returns-clause-value c, ← c.self.view_is)
    (λ k last. made_of clip.bytes clip.wave fit.input_rate fit.output_rate c.args.n k c.point-first.result kept.surveyed kept.input_rate c.point-first.ensures.point (omega (arith, inside, frames_are)) last)
