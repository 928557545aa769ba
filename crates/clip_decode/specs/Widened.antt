-- Samples of 16 bits as samples of 24 bits.
use Rattle.std.specs.Prelude.{ℤ, pos, ◌*ℤ◌}

-- with eight more low bits, which are 0
abbrev pub widened : ℤ → ℤ
widened sample = sample *ℤ pos 256
