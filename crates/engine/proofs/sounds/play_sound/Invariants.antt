use Rattle.std.proofs.Common.{◌≡◌, ◌*◌, ◌-◌, ◌≤◌}
use Rattle.mix_fixed.specs.Kernels.{AreSamples}
use Rattle.resource_mgr.specs.Tapes.{IsLater}
use Rattle.engine.specs.Sounds.{ArePlayed}
use Rattle.engine.proofs.sounds.play_sound.Given as goal

abbrev pub invariant-loop-done : goal.invariant-loop-done
invariant-loop-done l = record {
  within : l.done ≤ l.frames;
  clip : l.clip ≡ l.fn.clip;
  later : IsLater l.fn.tape l.tape;
  played : ArePlayed l.fn.clip l.looped l.cursor (l.done * l.fn.clip.channels) l.out;
  samples : AreSamples l.out;
}

abbrev pub decreases-loop-done : goal.decreases-loop-done
decreases-loop-done l = l.frames - l.done
