-- Samples of a page, copied.
use Rattle.std.proofs.Common.{◌≡◌, ◌∙◌, ◌<◌, ◌+◌, ◌*◌, ◌/◌, ◌%◌, pos, length, take, get_or, ap, sym, arith}
use Rattle.std.proofs.Math.Nat.{div-lt_iff_lt-mul, mod-lt}
use Rattle.std.proofs.lemmas.List.{get_or-take, length-take-le}
use Rattle.scene_clips.specs.ClipFrames.{clip_sample}
use Rattle.scene_clips.proofs.Copies.{copied_is, copied_fits, unchanged_length, unchanged_wave}
use Rattle.scene_clips.proofs.PagesTo.{unchanged_there}
use Rattle.scene_clips.proofs.paged_clip.PagedClip.copy_next.Goals as goal

pub overflow_add-from : goal.overflow_add-from
overflow_add-from c =
    let clip = c.self.inside.file in
    let to = c.self.inside.converter in
    let kept = c.self.invariant in
    let is = unchanged_wave clip.bytes clip.wave to.conversion.output_rate to.channels kept.surveyed (rw (← c.self.view_is) at c.requires.unchanged) in
    let long = unchanged_length clip.bytes clip.wave to.conversion.output_rate kept.surveyed is.0 (omega (arith, kept.lawful.lies.rate_least)) in
    omega (arith, rw (← c.self.view_is) at c.requires.frames, long, c.requires.left, kept.frames, kept.conversion.short)

pub samples_from-samples-requires-clause-below : goal.samples_from-samples-requires-clause-below
samples_from-samples-requires-clause-below c =
    let clip = c.self.inside.file in
    let to = c.self.inside.converter in
    let kept = c.self.invariant in
    let is = unchanged_wave clip.bytes clip.wave to.conversion.output_rate to.channels kept.surveyed (rw (← c.self.view_is) at c.requires.unchanged) in
    let long = unchanged_length clip.bytes clip.wave to.conversion.output_rate kept.surveyed is.0 (omega (arith, kept.lawful.lies.rate_least)) in
    omega (arith, rw (← c.self.view_is) at c.requires.frames, long, c.requires.left)

pub samples_from-samples-requires-clause-there : goal.samples_from-samples-requires-clause-there
samples_from-samples-requires-clause-there c =
    let clip = c.self.inside.file in
    let to = c.self.inside.converter in
    let kept = c.self.invariant in
    let n = c.args.from + c.args.done in
    let is = unchanged_wave clip.bytes clip.wave to.conversion.output_rate to.channels kept.surveyed (rw (← c.self.view_is) at c.requires.unchanged) in
    let there = (rw (← c.self.view_is) at c.requires.there) n (omega (arith, c.requires.left)) in
    unchanged_there clip.bytes clip.wave c.args.pages.now to.conversion.output_rate n kept.surveyed is.0 (omega (arith, kept.lawful.lies.rate_least)) there (samples_from-samples-requires-clause-below c)

pub put_samples-requires : goal.put_samples-requires
put_samples-requires c =
    let channels : c.from-channels.result ≡ c.args.self.now.channels = c.from-channels.ensures ∙ c.channels.ensures.value in
    rw channels (omega (
      arith,
      copied_fits (length c.samples_from-samples.result.now) c.args.self.now.channels c.args.done c.args.count c.min-frames.result (rw channels at c.min-frames.ensures) c.requires.left,
      c.requires.room,
      length-take-le (c.min-frames.result * c.args.self.now.channels) c.samples_from-samples.result.now
          (copied_fits (length c.samples_from-samples.result.now) c.args.self.now.channels c.args.done c.args.count c.min-frames.result (rw channels at c.min-frames.ensures) c.requires.left).0,
    ))

pub returns-clause-values : goal.returns-clause-values
returns-clause-values c =
    let clip = c.self.inside.file in
    let w = clip.wave in
    let to = c.self.inside.converter in
    let kept = c.self.invariant in
    let is = unchanged_wave clip.bytes clip.wave to.conversion.output_rate to.channels kept.surveyed (rw (← c.self.view_is) at c.requires.unchanged) in
    let long = unchanged_length clip.bytes clip.wave to.conversion.output_rate kept.surveyed is.0 (omega (arith, kept.lawful.lies.rate_least)) in
    let room = rw (← c.self.view_is) at c.requires.frames in
    let channels : c.from-channels.result ≡ to.channels = c.from-channels.ensures ∙ c.channels.ensures.value ∙ ap (λ v. v.channels) (sym c.self.view_is) in
    let samples = c.samples_from-samples.result.now in
    let n = c.min-frames.result in
    let fits = copied_fits (length samples) to.channels c.args.done c.args.count n (rw channels at c.min-frames.ensures) c.requires.left in
    let some : 0 < to.channels = omega (arith, is.1, kept.lawful.lies.channels_least) in
    rw (← c.self.view_is) (λ j inside.
    let taken : j < length (take (n * c.from-channels.result) samples) = rw channels (omega (arith, inside, length-take-le (n * to.channels) samples fits.0)) in
    let frame : j / to.channels < n = (div-lt_iff_lt-mul {k = to.channels} {x = j} {y = n} some).1 inside in
    ap (λ k. get_or c.put_samples.new.out (c.args.done * k + j) (pos 0)) (sym channels)
    ∙ c.put_samples.ensures.here j taken
    ∙ get_or-take (n * c.from-channels.result) samples j (pos 0) (rw channels inside)
    ∙ c.samples_from-samples.ensures.values j (omega (arith, inside, fits.0))
    ∙ copied_is clip.bytes w to (c.args.from + c.args.done + j / w.channels) (j % w.channels) kept.surveyed kept.input_rate is.0 is.1
    (omega (arith, kept.lawful.lies.rate_least)) kept.lawful.lies.channels_least (omega (arith, c.channels.ensures.most, c.from-channels.ensures, channels)) (mod-lt j (omega (arith, kept.lawful.lies.channels_least)))
    (rw (← is.1) (omega (arith, frame, fits.1, room, long)))
    ∙ ap (λ k. clip_sample clip.bytes to.conversion.output_rate to.channels (c.args.from + c.args.done + j / k) (j % k)) (sym is.1))
