use Rattle.std.proofs.Common.{◌≡◌, ◌-◌, ◌≤◌, None, Some, false, List, ℕ, length}
use Rattle.snd_io.specs.Runs.{GrowsBy}
use Rattle.mix_model.specs.Rendering.{data_of, summary_of}
use Rattle.resource_mgr.specs.Tapes.{files_of}
use Rattle.engine.specs.Rendering.{frames_before}
use Rattle.engine.specs.Span.{node_places}
use Rattle.engine.proofs.out_file.append_blocks.Given as goal

abbrev pub invariant-loop-scene : goal.invariant-loop-scene
invariant-loop-scene g l = record {
  scene : l.renderer.scene ≡ l.fn.scene;
  files : files_of l.renderer.tapes ≡ files_of l.fn.renderer.tapes;
  shows : g.P.PageSource.shows l.source l.renderer.tapes;
  fresh : (l.renderer.next ≡ None) × (l.renderer.ready ≡ false);
  within : l.renderer.clock ≤ l.fn.scene.length;
  summary_is : l.summary ≡ summary_of l.fn.scene (frames_before l.fn.scene (files_of l.fn.renderer.tapes) l.renderer.clock);
  number_most : l.number ≤ l.renderer.clock;
  room : length l.samples ≡ node_places;
  writing : g.D.Depot.writing l.depot ≡ g.D.Depot.writing l.fn.depot;
  grown : (name : List ℕ) → g.D.Depot.writing l.fn.depot ≡ Some name
      → GrowsBy name (data_of l.fn.scene (frames_before l.fn.scene (files_of l.fn.renderer.tapes) l.renderer.clock)) (g.D.Depot.files l.fn.depot) (g.D.Depot.files l.depot);
  faults : g.D.Depot.faults l.depot ≡ g.D.Depot.faults l.fn.depot;
}

abbrev pub decreases-loop-scene : goal.decreases-loop-scene
decreases-loop-scene g l = l.fn.scene.length - l.renderer.clock
