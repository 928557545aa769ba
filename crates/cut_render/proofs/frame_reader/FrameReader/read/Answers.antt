-- Frame after frame.
use Rattle.std.proofs.Common.{◌≡◌, ◌∙◌, ◌+◌, ◌++◌, ap, ap₂, sym, refl, append-nil}
use Rattle.cut_render.specs.Cut.{cut_frame}
use Rattle.cut_render.proofs.Frames.{no-frames, read-next}
use Rattle.cut_render.proofs.frame_reader.FrameReader.read.Goals as goal

pub loop-number-init : goal.loop-number-init
loop-number-init c = record {
  reading = c.requires.reading;
  clip = refl;
  samples = sym (ap (λ xs. c.args.samples.now.items ++ xs) (no-frames c.args.self.now.clip.bytes c.args.place) ∙ append-nil c.args.samples.now.items);
  range = c.requires.range;
}

pub loop-number-preserved : goal.loop-number-preserved
loop-number-preserved c =
    let now = c.loop-number.invariant in
    let bytes = c.args.self.now.clip.bytes in
    let n = c.loop-number.number in
    let heard : cut_frame c.loop-number.self.clip.bytes (c.args.place + c.from.result) ≡ cut_frame bytes (c.args.place + n) =
    ap₂ (λ clip k. cut_frame clip.bytes (c.args.place + k)) now.clip c.from.ensures in
    record {
      reading = c.append_frame.ensures.reading;
      clip = c.append_frame.ensures.clip ∙ now.clip;
      samples = read-next bytes c.args.place n c.args.samples.now.items c.loop-number.samples.items c.append_frame.new.samples.items _ now.samples heard c.in_ok-append_frame.ensures.samples;
      range = c.in_ok-append_frame.ensures.range;
    }
