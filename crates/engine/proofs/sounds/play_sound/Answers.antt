use Rattle.std.proofs.Common.{◌≡◌, ◌∙◌, ℕ, ◌+◌, ◌-◌, ◌*◌, ◌/◌, ◌%◌, ◌≤◌, ◌<◌, sym, ap, subst, arith}
use Rattle.std.proofs.lemmas.Result.{err_from_is_err_and}
use Rattle.mix_fixed.specs.Kernels.{at}
use Rattle.scene_clips.specs.ClipFrames.{clip_length}
use Rattle.scene_clips.specs.SceneClipData.{SceneClipData}
use Rattle.mix_model.specs.Signals.{sample_at}
use Rattle.mix_model.specs.Spans.{played}
use Rattle.resource_mgr.proofs.Readers.{later_trans}
use Rattle.engine.specs.Needs.{IsMissingIn}
use Rattle.engine.specs.Sounds.{place_in}
use Rattle.engine.proofs.Needed.{missing_at}
use Rattle.engine.proofs.PlayedParts.{part_more, played_most}
use Rattle.engine.proofs.sounds.play_sound.Goals as goal

pub part_frames-part-requires-clause-place : goal.part_frames-part-requires-clause-place
part_frames-part-requires-clause-place c =
    let most = played_most c.len-len.result c.args.looped c.args.cursor c.loop-done.done (omega (arith, c.requires.cursor, c.len-len.ensures.value)) in
    omega (arith, most, c.played_to-place.ensures)

pub play_part-requires-clause-place : goal.play_part-requires-clause-place
play_part-requires-clause-place c =
    let most = played_most c.len-len.result c.args.looped c.args.cursor c.loop-done.done (omega (arith, c.requires.cursor, c.len-len.ensures.value)) in
    rw c.loop-done.invariant.clip (omega (arith, most, c.played_to-place.ensures, c.len-len.ensures.value))

pub returns-in_err-play_part-clause-missing : goal.returns-in_err-play_part-clause-missing
returns-in_err-play_part-clause-missing c =
    let clip = c.args.clip.now in
    let same = c.loop-done.invariant.clip in
    let done = c.loop-done.done in
    let part = c.part_frames-part.result in
    let place = c.played_to-place.result in
    let missing = c.in_err-play_part.field-0.0 in
    let len : c.len-len.result ≡ clip_length clip.bytes clip.rate = c.len-len.ensures.value in
    let is = subst (λ (k : SceneClipData). (place < clip_length k.bytes k.rate) × IsMissingIn k place part c.loop-done.tape c.play_part.new.tape missing.page missing.shown) same c.in_err-play_part.ensures.missing in
    let e = err_from_is_err_and c.from_residual.result c.from_residual.ensures.1 in
    rw (e.1, e.2)
    (missing_at clip c.args.looped c.args.cursor c.args.frames done part place c.args.tape.now c.loop-done.tape c.play_part.new.tape missing.page missing.shown
    (c.played_to-place.ensures ∙ ap (λ f. played f c.args.looped c.args.cursor done) len)
    (λ i below. subst (λ f. played f c.args.looped place i ≡ place_in f place i) len (c.part_frames-part.ensures.plays i below))
    (omega (arith, c.part_frames-part.ensures.most, c.loop-done-test.true)) is.0
    (subst (λ f. part ≤ f - place) len (c.part_frames-part.ensures.inside (subst (λ f. place < f) (sym len) is.0)))
    c.loop-done.invariant.later is.1)

pub loop-done-preserved : goal.loop-done-preserved
loop-done-preserved c =
    let clip = c.args.clip.now in
    let same = c.loop-done.invariant.clip in
    let did = c.in_ok-play_part.ensures in
    let done = c.loop-done.done in
    let part = c.part_frames-part.result in
    let place = c.played_to-place.result in
    let out = c.play_part.new.out in
    let len : c.len-len.result ≡ clip_length clip.bytes clip.rate = c.len-len.ensures.value in
    record {
      within = omega (arith, c.part_frames-part.ensures.most, c.loop-done-test.true);
      clip = did.same ∙ same;
      later = later_trans c.args.tape.now.reader c.loop-done.tape.reader c.play_part.new.tape.reader c.loop-done.invariant.later did.later;
      played = part_more clip c.args.looped c.args.cursor done part place c.loop-done.out out c.requires.channels
          (c.played_to-place.ensures ∙ ap (λ f. played f c.args.looped c.args.cursor done) len)
          (λ i below. subst (λ f. played f c.args.looped place i ≡ place_in f place i) len (c.part_frames-part.ensures.plays i below))
          (subst (λ (k : SceneClipData). (j : ℕ) → j < done * k.channels → at out j ≡ at c.loop-done.out j) same did.before)
          (subst (λ (k : SceneClipData). (j : ℕ) → j < part * k.channels → at out (done * k.channels + j) ≡ sample_at k (place_in (clip_length k.bytes k.rate) place (j / k.channels)) (j % k.channels)) same did.here)
          c.loop-done.invariant.played;
      samples = did.samples;
    }
