use Rattle.std.proofs.Common.{take}
use Rattle.mix_model.specs.Mix.{AreFramesOf}
use Rattle.mix_model.proofs.clips.frames_of.Given as goal

abbrev pub invariant-loop-k : goal.invariant-loop-k
invariant-loop-k l = AreFramesOf (take l.k l.clips) l.frames.items
