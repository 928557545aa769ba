use Rattle.std.proofs.Common.{◌≡◌, ◌++◌, All}
use Rattle.mix_fixed.specs.Sound.{Is24}
use Rattle.cut_render.specs.Cut.{piece}
use Rattle.cut_render.specs.Reading.{IsReading}
use Rattle.cut_render.proofs.frame_reader.FrameReader.read.Given as goal

abbrev pub invariant-loop-number : goal.invariant-loop-number
invariant-loop-number l = record {
  reading : IsReading l.self;
  clip : l.self.clip ≡ l.fn.self.clip;
  samples : l.samples.items ≡ l.fn.samples.items ++ piece l.fn.self.clip.bytes l.fn.place l.number;
  range : All Is24 l.samples.items;
}
