use Rattle.std.proofs.Common.{◌≡◌, ℕ, ◌<◌, false}
use Rattle.std.specs.Prelude.{nat_lt}
use Rattle.wave_read.specs.StepIndices.{step_index, last_step}
use Rattle.wave_read.proofs.step_indices.block_fault.Given as goal

-- no channel so far has a step index that is too large
abbrev pub invariant-loop-channel : goal.invariant-loop-channel
invariant-loop-channel l =
    (c : ℕ) → c < l.channel → nat_lt last_step (step_index l.bytes l.wave l.block c) ≡ false
