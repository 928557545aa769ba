-- Buses by their node and the number of the output there.
use Rattle.std.specs.Prelude.{ℕ, Bool, ◌&&◌, ◌==◌, List, Option, if◌then◌else◌, map, find}
use Rattle.std.specs.Option.{option_and_then}
use Rattle.scene_model.specs.declared.bus.Bus.{Bus}

abbrev pub is_output : ℕ → ℕ → Bus → Bool
is_output node out b = b.node == node && b.out == out

-- the node to which that output is attached, if it is
abbrev pub target : List Bus → ℕ → ℕ → Option ℕ
target buses node out = option_and_then (λ (b : Bus). b.to) (find (is_output node out) buses)

-- one bus, and all of them, with that output attached to this node, or to none
abbrev pub bus_with_target : ℕ → ℕ → Option ℕ → Bus → Bus
bus_with_target node out to b = if is_output node out b then record b { to = to } else b

abbrev pub with_target : ℕ → ℕ → Option ℕ → List Bus → List Bus
with_target node out to buses = map (bus_with_target node out to) buses

-- one bus, and all of them, with this gain at that output
abbrev pub bus_with_gain : ℕ → ℕ → ℕ → Bus → Bus
bus_with_gain node out gain b = if is_output node out b then record b { gain = gain } else b

abbrev pub with_gain : ℕ → ℕ → ℕ → List Bus → List Bus
with_gain node out gain buses = map (bus_with_gain node out gain) buses
