-- A word as a number, whose lowest bits are its first code.
use Rattle.std.specs.Prelude.{ℕ, ◌*◌, ◌/◌, ◌%◌, ◌^◌}

-- code i of a word
abbrev pub code_in : ℕ → ℕ → ℕ
code_in word i = word / 2 ^ (4 * i) % 16
