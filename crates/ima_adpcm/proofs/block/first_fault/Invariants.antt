-- The channels so far have an index of the table.
use Rattle.std.proofs.Common.{◌≡◌, ℕ, ◌<◌, false}
use Rattle.ima_adpcm.specs.Faults.{is_faulty}
use Rattle.ima_adpcm.proofs.block.first_fault.Given as goal

abbrev pub invariant-loop-channel : goal.invariant-loop-channel
invariant-loop-channel l = (d : ℕ) → d < l.channel → is_faulty l.block d ≡ false
