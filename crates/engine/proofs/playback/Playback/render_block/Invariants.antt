use Rattle.std.proofs.Common.{◌≡◌, ◌-◌}
use Rattle.resource_mgr.specs.Tapes.{AreLater}
use Rattle.engine.specs.Playing.{IsInBlock}
use Rattle.engine.proofs.playback.Playback.render_block.Given as goal

abbrev pub invariant-loop-self : goal.invariant-loop-self
invariant-loop-self l = record {
  standing : IsInBlock l.self l.start l.end l.out;
  scene : l.self.scene.value ≡ l.fn.self.scene.value;
  clips : l.self.clips.items ≡ l.fn.self.clips.items;
  tapes : AreLater l.fn.self.tapes.items l.self.tapes.items;
}

abbrev pub decreases-loop-self : goal.decreases-loop-self
decreases-loop-self l = l.end - l.self.time
