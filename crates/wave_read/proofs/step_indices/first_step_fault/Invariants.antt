use Rattle.std.proofs.Common.{◌≡◌, ℕ, ◌<◌}
use Rattle.std.specs.Prelude.{None}
use Rattle.wave_read.specs.StepIndices.{bad_channel}
use Rattle.wave_read.proofs.step_indices.first_step_fault.Given as goal

-- no block so far has a step index that is too large
abbrev pub invariant-loop-block : goal.invariant-loop-block
invariant-loop-block l = (b : ℕ) → b < l.block → bad_channel l.bytes l.wave b ≡ None
