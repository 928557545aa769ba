use Rattle.std.proofs.Common.{◌≡◌, ℕ, ◌+◌, ◌-◌, ◌*◌, ◌<◌, ◌≤◌, ℤ, pos, length, List, sym, ◌∙◌, ap, subst, arith}
use borrow.Rule.Slice.PartMut.{put_mid}
use Rattle.mix_fixed.specs.Sound.{Is24}
use Rattle.mix_fixed.specs.Kernels.{at}
use Rattle.scene_clips.specs.ClipFrames.{clip_length}
use Rattle.engine.proofs.Middle.{mid_long, mid_samples, part_samples, silent_at, silence_is_24}
use Rattle.scene_clips.proofs.Middle.{mid_inside}
use Rattle.engine.proofs.PlayedParts.{run_heard, silence_heard}
use Rattle.engine.proofs.sounds.play_part.Goals as goal

-- a part of the samples, by the width of a frame
record Part (done part width channels : ℕ) (out : List ℤ) : Type 0 where
  start : done * width ≡ done * channels
  size : (done + part) * width - done * width ≡ part * channels
  within : done * width + ((done + part) * width - done * width) ≤ length out

part_is : (done part width channels : ℕ) (out : List ℤ) → width ≡ channels → (done + part) * channels ≤ length out → Part done part width channels out
part_is done part width channels out is room =
    let wide : (done + part) * width ≡ done * width + part * width = omega arith in
    let same : part * width ≡ part * channels = ap (λ x. part * x) is in
    let whole : (done + part) * width ≡ (done + part) * channels = ap (λ x. (done + part) * x) is in
    record { start = ap (λ x. done * x) is; size = omega (arith, wide, same); within = omega (arith, wide, whole, room) }

pub returns-in_ok-run-clause-here : goal.returns-in_ok-run-clause-here
returns-in_ok-run-clause-here c = λ j below.
    let clip = c.args.clip.now in
    let width : c.from-channels.result ≡ clip.channels = omega (arith, c.from-channels.ensures, c.channels.ensures.value) in
    let is = part_is c.args.done c.args.part c.from-channels.result clip.channels c.args.out.now width c.requires.room in
    let a = c.args.done * c.from-channels.result in
    let k = (c.args.done + c.args.part) * c.from-channels.result - c.args.done * c.from-channels.result in
    let long : length c.run.new.out ≡ k = mid_long a k c.args.out.now c.run.new.out is.within c.run.auto.out in
    let least : 1 ≤ clip.channels = omega (arith, c.channels.ensures.least, c.channels.ensures.value) in
    let inside : c.args.place < clip_length clip.bytes clip.rate = omega (arith, c.if-place-len.true, c.len.ensures.value) in
    ap (λ x. at (put_mid a k c.args.out.now c.run.new.out) (x + j)) (sym is.start)
    ∙ mid_inside a k c.args.out.now c.run.new.out j (omega (arith, is.within)) (omega (arith, below, long, is.size))
    ∙ run_heard clip c.args.place c.args.part c.run.new.out least inside (c.requires.inside inside) c.in_ok-run.ensures.values j below

pub returns-in_ok-run-clause-samples : goal.returns-in_ok-run-clause-samples
returns-in_ok-run-clause-samples c =
    let clip = c.args.clip.now in
    let width : c.from-channels.result ≡ clip.channels = omega (arith, c.from-channels.ensures, c.channels.ensures.value) in
    let is = part_is c.args.done c.args.part c.from-channels.result clip.channels c.args.out.now width c.requires.room in
    let a = c.args.done * c.from-channels.result in
    let k = (c.args.done + c.args.part) * c.from-channels.result - c.args.done * c.from-channels.result in
    let long : length c.run.new.out ≡ k = mid_long a k c.args.out.now c.run.new.out is.within c.run.auto.out in
    mid_samples a k c.args.out.now c.run.new.out is.within long c.requires.samples (c.in_ok-run.ensures.range (part_samples a k c.args.out.now c.requires.samples))

pub returns-else-place-len-clause-here : goal.returns-else-place-len-clause-here
returns-else-place-len-clause-here c = λ j below.
    let clip = c.args.clip.now in
    let width : c.from-channels.result ≡ clip.channels = omega (arith, c.from-channels.ensures, c.channels.ensures.value) in
    let is = part_is c.args.done c.args.part c.from-channels.result clip.channels c.args.out.now width c.requires.room in
    let a = c.args.done * c.from-channels.result in
    let k = (c.args.done + c.args.part) * c.from-channels.result - c.args.done * c.from-channels.result in
    let long : length c.fill.new.self ≡ k = mid_long a k c.args.out.now c.fill.new.self is.within c.fill.auto.self in
    let none : at c.fill.new.self j ≡ pos 0 = silent_at c.fill.new.self _ j (c.fill.ensures.after (λ y e. e)) in
    ap (λ x. at (put_mid a k c.args.out.now c.fill.new.self) (x + j)) (sym is.start)
    ∙ mid_inside a k c.args.out.now c.fill.new.self j (omega (arith, is.within)) (omega (arith, below, long, is.size))
    ∙ silence_heard clip c.args.place c.fill.new.self j (omega (arith, c.requires.place, c.if-place-len.false, c.len.ensures.value)) none

pub returns-else-place-len-clause-samples : goal.returns-else-place-len-clause-samples
returns-else-place-len-clause-samples c =
    let clip = c.args.clip.now in
    let width : c.from-channels.result ≡ clip.channels = omega (arith, c.from-channels.ensures, c.channels.ensures.value) in
    let is = part_is c.args.done c.args.part c.from-channels.result clip.channels c.args.out.now width c.requires.room in
    let a = c.args.done * c.from-channels.result in
    let k = (c.args.done + c.args.part) * c.from-channels.result - c.args.done * c.from-channels.result in
    let long : length c.fill.new.self ≡ k = mid_long a k c.args.out.now c.fill.new.self is.within c.fill.auto.self in
    mid_samples a k c.args.out.now c.fill.new.self is.within long c.requires.samples (λ j below. subst Is24 (sym (silent_at c.fill.new.self _ j (c.fill.ensures.after (λ y e. e)))) silence_is_24)

pub returns-in_err-run-clause-samples : goal.returns-in_err-run-clause-samples
returns-in_err-run-clause-samples c =
    let clip = c.args.clip.now in
    let width : c.from-channels.result ≡ clip.channels = omega (arith, c.from-channels.ensures, c.channels.ensures.value) in
    let is = part_is c.args.done c.args.part c.from-channels.result clip.channels c.args.out.now width c.requires.room in
    let a = c.args.done * c.from-channels.result in
    let k = (c.args.done + c.args.part) * c.from-channels.result - c.args.done * c.from-channels.result in
    let long : length c.run.new.out ≡ k = mid_long a k c.args.out.now c.run.new.out is.within c.run.auto.out in
    mid_samples a k c.args.out.now c.run.new.out is.within long c.requires.samples (c.in_err-run.ensures.range (part_samples a k c.args.out.now c.requires.samples))
