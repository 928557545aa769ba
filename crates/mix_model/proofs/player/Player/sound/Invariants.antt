use Rattle.std.proofs.Common.{◌≡◌, ◌++◌}
use Rattle.mix_model.specs.Mix.{frame_state}
use Rattle.mix_model.specs.Signals.{frame}
use Rattle.mix_model.proofs.player.Player.sound.Given as goal

abbrev pub invariant-loop-channel : goal.invariant-loop-channel
invariant-loop-channel l = l.samples.items ≡ l.initial.samples.items ++ frame (frame_state l.fn.self.clips.items l.fn.scene l.fn.self.time) l.channel
