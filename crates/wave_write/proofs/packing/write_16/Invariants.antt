use Rattle.std.proofs.Common.{◌≡◌, ◌*◌, take}
use Rattle.wave_write.specs.Samples.{packed}
use Rattle.wave_write.proofs.packing.write_16.Given as goal

abbrev pub invariant-loop-i : goal.invariant-loop-i
invariant-loop-i l = take (2 * l.i) l.out ≡ packed 16 (take l.i l.x)
