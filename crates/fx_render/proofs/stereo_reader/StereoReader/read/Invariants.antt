use Rattle.std.proofs.Common.{◌≡◌, ◌+◌, ◌*◌, ◌++◌, All, length}
use Rattle.clip_decode.specs.Frames.{interleaved}
use Rattle.mix_fixed.specs.Sound.{Is24}
use Rattle.fx_render.specs.Effected.{stereo_frames}
use Rattle.fx_render.specs.Reading.{IsReading}
use Rattle.fx_render.proofs.stereo_reader.StereoReader.read.Given as goal

abbrev pub invariant-loop : goal.invariant-loop
invariant-loop l = record {
  reading : IsReading l.self;
  clip : l.self.clip ≡ l.fn.self.clip;
  next : l.self.next ≡ l.fn.self.next + l.counter;
  samples : l.samples.items ≡ l.fn.samples.items ++ interleaved (stereo_frames l.fn.self.clip.bytes l.fn.self.next l.counter);
  count : length l.samples.items ≡ length l.fn.samples.items + 2 * l.counter;
  range : All Is24 l.samples.items;
}
