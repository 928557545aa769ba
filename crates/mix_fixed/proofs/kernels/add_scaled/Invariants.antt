use Rattle.std.proofs.Common.{◌*◌}
use Rattle.mix_fixed.specs.Kernels.{MixedIn}
use Rattle.mix_fixed.proofs.kernels.add_scaled.Given as goal

abbrev pub invariant-loop-block : goal.invariant-loop-block
invariant-loop-block l = MixedIn 0 (l.block * 8) l.g l.fn.acc l.x l.acc

abbrev pub invariant-loop-i : goal.invariant-loop-i
invariant-loop-i l = MixedIn 0 l.i l.g l.fn.acc l.x l.acc
