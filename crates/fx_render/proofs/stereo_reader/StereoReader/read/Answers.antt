-- Frame after frame.
use Rattle.std.proofs.Common.{◌≡◌, ◌∙◌, ◌+◌, All, length, length-append, append-nil, ap, sym, refl, subst, arith}
use Rattle.std.proofs.lemmas.List.Elements.{All-append}
use Rattle.clip_decode.specs.Frames.{frames, interleaved}
use Rattle.mix_fixed.specs.Sound.{Is24}
use Rattle.scene_clips.specs.ClipFrames.{all_in_channels}
use Rattle.scene_clips.specs.FilePages.{frame_or_silence}
use Rattle.fx_render.proofs.Frames.{read-next}
use Rattle.fx_render.proofs.stereo_reader.StereoReader.read.Goals as goal

pub loop-init : goal.loop-init
unfolding interleaved
loop-init c = record {
  reading = c.requires.reading;
  clip = refl;
  next = omega arith;
  samples = sym (append-nil c.args.samples.now.items);
  count = omega arith;
  range = c.requires.range;
}

pub loop-preserved : goal.loop-preserved
loop-preserved c =
    let now = c.loop.invariant in
    let bytes = c.args.self.now.clip.bytes in
    let from = c.args.self.now.next in
    let heard : c.next_frame-frame.result ≡ frame_or_silence 2 (all_in_channels 2 (frames bytes)) (from + c.loop.counter) =
    c.next_frame-frame.ensures.frame ∙ ap (λ k. frame_or_silence 2 (all_in_channels 2 (frames k.bytes)) c.loop.self.next) now.clip
    ∙ ap (λ n. frame_or_silence 2 (all_in_channels 2 (frames bytes)) n) now.next in
    record {
      reading = c.next_frame-frame.ensures.reading;
      clip = c.next_frame-frame.ensures.clip ∙ now.clip;
      next = omega (arith, c.next_frame-frame.ensures.next, now.next);
      samples = read-next bytes from c.loop.counter c.args.samples.now.items c.loop.samples.items c.extend_from_slice.new.self.items c.next_frame-frame.result
          now.samples heard c.in_ok-extend_from_slice.ensures.items;
      count = omega (arith, now.count, ap length c.in_ok-extend_from_slice.ensures.items, length-append c.loop.samples.items c.next_frame-frame.result, c.next_frame-frame.type_inv);
      range = subst (All Is24) (sym c.in_ok-extend_from_slice.ensures.items) (All-append Is24 c.loop.samples.items c.next_frame-frame.result now.range c.next_frame-frame.ensures.range);
    }
