-- The buses that are attached to a node, by their numbers.
use Rattle.std.specs.Prelude.{ℕ, Bool, false, ◌==◌, List, length, filter, slice_get, count_by}
use Rattle.std.specs.List.{range_with_len}
use Rattle.std.specs.Option.{option_map_or}
use Rattle.scene_model.specs.declared.bus.Bus.{Bus}

-- whether a bus is attached to that node
abbrev pub leads_to : ℕ → Bus → Bool
leads_to node b = option_map_or (λ (to : ℕ). to == node) b.to false

-- whether there is a bus of that number, and it is attached to that node
abbrev pub is_attached : List Bus → ℕ → ℕ → Bool
is_attached buses node number = option_map_or (leads_to node) (slice_get buses number) false

-- the numbers of the buses that are attached to that node, each once, in order
abbrev pub attached : List Bus → ℕ → List ℕ
attached buses node = filter (is_attached buses node) (range_with_len 0 (length buses))

-- how often a number stands in a list
abbrev pub count_of : ℕ → List ℕ → ℕ
count_of number numbers = count_by (λ x. x == number) numbers
