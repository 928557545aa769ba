use Rattle.std.proofs.Common.{◌*◌}
use Rattle.mix_fixed.specs.Kernels.{SettledIn}
use Rattle.mix_fixed.proofs.kernels.settle.Given as goal

abbrev pub invariant-loop-block : goal.invariant-loop-block
invariant-loop-block l = SettledIn 0 (l.block * 8) l.acc l.fn.out l.out

abbrev pub invariant-loop-j : goal.invariant-loop-j
invariant-loop-j l = SettledIn 0 l.j l.acc l.fn.out l.out
