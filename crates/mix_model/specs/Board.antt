-- The board: the words by which the dials of a plan are read.
use Rattle.std.specs.Prelude.{ℕ, ◌+◌, ◌*◌, Bool, true, false, List, [], ◌∷◌, ◌++◌, map}
use Rattle.std.specs.List.{flat_map}
use Rattle.scene_model.specs.declared.bus.Bus.{Bus}
use Rattle.scene_model.specs.declared.node_state.NodeState.{NodeState}
use Rattle.scene_model.specs.PlanData.{PlanData}

-- 1 for what is on, and 0 for what is off
abbrev pub switch : Bool → ℕ
switch true = 1
switch false = 0

-- the number of seeks so far in the upper 17 bits of a word, and the place of the last one in the lower 47
abbrev pub seek_word : ℕ → ℕ → ℕ
seek_word seeks place = seeks * 140737488355328 + place

-- the five words of a node
abbrev pub node_words : NodeState → List ℕ
node_words n = switch n.started ∷ n.from ∷ n.until ∷ seek_word n.seeks n.place ∷ switch n.looped ∷ []

-- the words of all nodes, in the order of their numbers, and then the gain of each bus
abbrev pub board : PlanData → List ℕ
board p = flat_map node_words p.nodes ++ map (λ (b : Bus). b.gain) p.buses
