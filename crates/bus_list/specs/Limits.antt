-- The limit of a list.
use Rattle.std.specs.Prelude.{ℕ}

-- the most buses that a list has numbers for
abbrev pub most_buses : ℕ
most_buses = 256
