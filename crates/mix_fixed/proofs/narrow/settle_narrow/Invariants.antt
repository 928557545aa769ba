use Rattle.std.proofs.Common.{◌≡◌, ◌<◌, ℕ}
use Rattle.mix_fixed.specs.Kernels.{at}
use Rattle.mix_fixed.specs.Sound.{Is24, sat24}
use Rattle.mix_fixed.proofs.narrow.settle_narrow.Given as goal

abbrev pub invariant-loop-i : goal.invariant-loop-i
invariant-loop-i l = (j : ℕ) → j < l.i → (at l.out j ≡ sat24 (at l.acc j)) × Is24 (at l.out j)
