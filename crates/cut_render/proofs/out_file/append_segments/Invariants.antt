use Rattle.std.proofs.Common.{◌≡◌, List, ℕ, Some, take}
use Rattle.snd_io.specs.Runs.{GrowsBy}
use Rattle.wave_write.specs.Samples.{packed}
use Rattle.cut_render.specs.Cut.{cut_samples, summary_of}
use Rattle.cut_render.specs.Reading.{IsReading}
use Rattle.cut_render.proofs.out_file.append_segments.Given as goal

abbrev pub invariant-loop-segment : goal.invariant-loop-segment
invariant-loop-segment g l = record {
  reading : IsReading l.pieces.reader;
  clip : l.pieces.reader.clip ≡ l.fn.pieces.reader.clip;
  writing : g.D.Depot.writing l.depot ≡ g.D.Depot.writing l.fn.depot;
  grown : (name : List ℕ) → g.D.Depot.writing l.fn.depot ≡ Some name
      → GrowsBy name (packed 24 (cut_samples l.fn.pieces.reader.clip.bytes (take l.segment-index l.segments))) (g.D.Depot.files l.fn.depot) (g.D.Depot.files l.depot);
  faults : g.D.Depot.faults l.depot ≡ g.D.Depot.faults l.fn.depot;
  summary : l.pieces.summary ≡ summary_of (cut_samples l.fn.pieces.reader.clip.bytes (take l.segment-index l.segments));
}
