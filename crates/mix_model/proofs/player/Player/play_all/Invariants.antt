use Rattle.std.proofs.Common.{◌≡◌, ◌+◌, ◌++◌}
use Rattle.mix_model.specs.Mix.{frames_from}
use Rattle.clip_decode.specs.Frames.{interleaved}
use Rattle.mix_model.specs.Playing.{IsBefore}
use Rattle.mix_model.proofs.player.Player.play_all.Given as goal

abbrev pub invariant-loop : goal.invariant-loop
invariant-loop l = record {
  before : IsBefore l.scene l.self;
  time : l.self.time ≡ l.initial.self.time + l.counter;
  clips : l.self.clips.items ≡ l.initial.self.clips.items;
  samples : l.samples.items ≡ l.initial.samples.items ++ interleaved (frames_from l.initial.self.clips.items l.scene l.initial.self.time l.counter);
}
