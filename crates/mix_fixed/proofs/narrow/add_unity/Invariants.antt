use Rattle.mix_fixed.specs.Kernels.{MixedIn}
use Rattle.mix_fixed.specs.Sound.{unity_gain}
use Rattle.mix_fixed.proofs.narrow.add_unity.Given as goal

abbrev pub invariant-loop-i : goal.invariant-loop-i
invariant-loop-i l = MixedIn 0 l.i unity_gain l.fn.acc l.x l.acc
