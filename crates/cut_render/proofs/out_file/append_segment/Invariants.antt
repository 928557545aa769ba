use Rattle.std.proofs.Common.{◌≡◌, ◌-◌, ◌≤◌, ◌++◌, List, ℕ, ℤ, Some}
use Rattle.snd_io.specs.Runs.{GrowsBy}
use Rattle.wave_write.specs.Samples.{packed}
use Rattle.cut_render.specs.Cut.{piece, summary_of}
use Rattle.cut_render.specs.Reading.{IsReading}
use Rattle.cut_render.proofs.out_file.append_segment.Given as goal

abbrev pub invariant-loop-written : goal.invariant-loop-written
invariant-loop-written g l = record {
  reading : IsReading l.pieces.reader;
  clip : l.pieces.reader.clip ≡ l.fn.pieces.reader.clip;
  within : l.written ≤ l.fn.segment.count;
  writing : g.D.Depot.writing l.depot ≡ g.D.Depot.writing l.fn.depot;
  grown : (name : List ℕ) → g.D.Depot.writing l.fn.depot ≡ Some name
      → GrowsBy name (packed 24 (piece l.fn.pieces.reader.clip.bytes l.fn.segment.place l.written)) (g.D.Depot.files l.fn.depot) (g.D.Depot.files l.depot);
  faults : g.D.Depot.faults l.depot ≡ g.D.Depot.faults l.fn.depot;
  summary : (before : List ℤ) → l.fn.pieces.summary ≡ summary_of before
      → l.pieces.summary ≡ summary_of (before ++ piece l.fn.pieces.reader.clip.bytes l.fn.segment.place l.written);
}

abbrev pub decreases-loop-written : goal.decreases-loop-written
decreases-loop-written g l = l.fn.segment.count - l.written
