-- The output buses of nodes, and their numbers.
use Rattle.std.specs.Prelude.{ℕ, ◌+◌, Bool, nat_lt, List, take, slice_get, sum_by}
use Rattle.std.specs.Option.{option_map_or}
use Rattle.scene_model.specs.declared.node.Node.{Node}
use Rattle.scene_model.specs.declared.node.NodeKind.{NodeKind}
use Rattle.scene_model.specs.declared.node.NodeKind.TheVariants.{Sound, Group, Splitter}

-- how many output buses a node of this kind has
abbrev pub outputs : NodeKind → ℕ
outputs (Sound resource looped) = 1
outputs Group = 1
outputs (Splitter n) = n

-- how many they are in all
abbrev pub bus_count : List Node → ℕ
bus_count nodes = sum_by (λ n. outputs n.kind) nodes

-- whether there is a node of that number with an output of that number
abbrev pub has_bus : List Node → ℕ → ℕ → Bool
has_bus nodes node out = nat_lt out (option_map_or (λ (n : Node). outputs n.kind) (slice_get nodes node) 0)

-- the number of a node's output among all buses: the buses of the nodes before it, and then that of the output
abbrev pub bus_number : List Node → ℕ → ℕ → ℕ
bus_number nodes node out = bus_count (take node nodes) + out
