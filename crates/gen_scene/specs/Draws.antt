-- The draws of a linear congruential generator modulo 2^32: the high 16 bits of each state.
use Rattle.std.specs.Prelude.{ℕ, zero, suc, ◌+◌, ◌*◌, ◌/◌, ◌%◌, ◌^◌}

abbrev pub stepped : ℕ → ℕ
stepped state = (state * 1664525 + 1013904223) % 2 ^ 32

-- the state after so many draws
unfoldable pub state : ℕ → ℕ → ℕ
state number zero = number
state number (suc n) = stepped (state number n)

-- what is drawn where this is the state after it
abbrev pub drawn : ℕ → ℕ
drawn after = after / 65536

-- draw n, counted from 0
abbrev pub draw : ℕ → ℕ → ℕ
draw number n = drawn (stepped (state number n))
