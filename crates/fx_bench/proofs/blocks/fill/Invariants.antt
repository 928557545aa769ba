use Rattle.std.proofs.Common.{◌≡◌, ℕ, ◌<◌, ℤ, length, slice_index_or}
use Rattle.mix_fixed.specs.Sound.{Is24}
use Rattle.fx_bench.proofs.blocks.fill.Given as goal

abbrev pub invariant-loop-i : goal.invariant-loop-i
invariant-loop-i l = record {
  len : length l.frames ≡ 1024;
  samples : (k : ℕ) → (d : ℤ) → k < l.i → Is24 (slice_index_or l.frames k d);
}
