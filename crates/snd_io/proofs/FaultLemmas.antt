-- Counts of faults in parts of a call.
use Rattle.std.specs.Prelude.{ℕ, ◌≤◌}
use Rattle.std.proofs.Common.{arith}
use Rattle.snd_io.specs.Faults.{Rose}

-- a count that rose in a part of a call rose in the call
pub Rose-within : (a b c d : ℕ) → a ≤ b → Rose b c → c ≤ d → Rose a d
Rose-within a b c d before rose after = omega arith
