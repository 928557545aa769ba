use Rattle.std.proofs.Common.{◌≡◌, ◌-◌, ◌≤◌, List, ℕ, Some}
use Rattle.fx_nodes.specs.Stages.{effects_in}
use Rattle.snd_io.specs.Runs.{GrowsBy}
use Rattle.wave_write.specs.Samples.{packed}
use Rattle.fx_render.specs.Blocks.{IsRendering}
use Rattle.fx_render.specs.Effected.{effected}
use Rattle.fx_render.proofs.out_file.append_blocks.Given as goal

abbrev pub invariant-loop-blocks : goal.invariant-loop-blocks
invariant-loop-blocks g l = record {
  rendering : IsRendering l.blocks;
  clip : l.blocks.reader.clip ≡ l.fn.blocks.reader.clip;
  effects : effects_in l.blocks.chain ≡ effects_in l.fn.blocks.chain;
  within : l.blocks.reader.next ≤ l.fn.count;
  writing : g.D.Depot.writing l.depot ≡ g.D.Depot.writing l.fn.depot;
  grown : (name : List ℕ) → g.D.Depot.writing l.fn.depot ≡ Some name
      → GrowsBy name (packed 24 (effected l.fn.blocks.reader.clip.bytes (effects_in l.fn.blocks.chain) l.blocks.reader.next)) (g.D.Depot.files l.fn.depot) (g.D.Depot.files l.depot);
  faults : g.D.Depot.faults l.depot ≡ g.D.Depot.faults l.fn.depot;
}

abbrev pub decreases-loop-blocks : goal.decreases-loop-blocks
decreases-loop-blocks g l = l.fn.count - l.blocks.reader.next
