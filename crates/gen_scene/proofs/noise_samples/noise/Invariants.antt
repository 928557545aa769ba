use Rattle.std.proofs.Common.{◌≡◌, take, All}
use Rattle.gen_scene.specs.Draws.{state}
use Rattle.gen_scene.specs.Sounds.{noise}
use Rattle.mix_fixed.specs.Sound.{Is24}
use Rattle.gen_scene.proofs.noise_samples.noise.Given as goal

abbrev pub invariant-loop-i : goal.invariant-loop-i
invariant-loop-i l = (l.draws ≡ state l.fn.draws l.i) × (take l.i l.out ≡ noise l.fn.draws 0 l.i) × All Is24 (take l.i l.out)
