use Rattle.std.proofs.Common.{◌≡◌, ◌-◌, ◌++◌}
use Rattle.std.specs.Option.{option_map}
use Rattle.mix_model.specs.Rendering.{data_of, frames_before, IsRendered}
use Rattle.mix_model.proofs.rendering.write_frames.Given as goal

abbrev pub invariant-loop-blocks : goal.invariant-loop-blocks
invariant-loop-blocks g l = record {
  rendered : IsRendered l.fn.scene l.blocks;
  clips : l.blocks.player.clips.items ≡ l.initial.blocks.player.clips.items;
  text : g.S.Sink.written l.sink ≡ option_map (λ t. t ++ data_of l.fn.scene (frames_before l.fn.scene l.blocks)) (g.S.Sink.written l.initial.sink);
  faults : g.S.Sink.faults l.sink ≡ g.S.Sink.faults l.initial.sink;
}

abbrev pub decreases-loop-blocks : goal.decreases-loop-blocks
decreases-loop-blocks g l = l.fn.scene.length - l.blocks.player.time
